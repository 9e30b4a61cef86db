-- An order that is planned brings what its change asks. Assumes nothing.
use mathlib.Core.Path.{◌≡◌}
use mathlib.Core.Bool.{true}
use mathlib.Core.List.{List}
use Prim.Native.Nat.{ℕ, ◌≤◌}
use native.Mathlib.Omega.{arith}
use lib.ListN.{length}
use Rattle.wire.proofs.Numbers.{Bytes}
use Rattle.order.proofs.Pictures.{laid}
use Rattle.order.proofs.Accepted.{an_icon}
use Rattle.slots.specs.Sound.{sound_index}
use Rattle.slots.proofs.Soundness.{within_slots}
use Rattle.index.specs.declared.RecordOrder.{RecordOrder}
use Rattle.index.specs.declared.Plan.{Plan}
use Rattle.index.specs.declared.Plan.TheVariants.{ChangeRecord, ChangeDesktop, Refuse}
use Rattle.index.specs.Orders.{brings_icon}
use Rattle.index.specs.Plans.{change_of, plan_of}
use Rattle.index.proofs.Ordered.{Ordered}
use Rattle.index.proofs.Numbered.{Planned}
use Rattle.picture.specs.Kept.{IconThere}
use Rattle.table.specs.Changes.{Able, Follows}
use Rattle.table.proofs.Bodied.{family_room}
use Rattle.table.proofs.OfKinds.{OfRecord, Planning, changes_record, changes_desktop, changes_none, planning}

-- the icon that an order brings, as judging accepts it
pub ordered_icon : (s : List ℕ) (o : RecordOrder) → Ordered s o → brings_icon o.flags ≡ true → IconThere s o.icon
ordered_icon s o h t =
    let i = an_icon o.flags s o.icon (omega (arith, h.low)) t h.picture in
    record { ends = i.ends; bits = i.bits; width = i.width; height = i.height; bytes = i.bytes }

-- it begins within the order
icon_low : (s : List ℕ) (icon : ℕ) → IconThere s icon → icon ≤ length s
icon_low s icon i =
    let l = laid s icon in
    omega (arith, l.low, l.first, l.second, l.third, i.ends)

pub record_able : (x s : List ℕ) (o : RecordOrder) (i place : ℕ) → OfRecord s o → Planned x s o i place → Able s (change_of s o i place)
record_able x s o i place k p =
    record {
      slot = within_slots o.family i p.placed.within;
      room = family_room o.family i p.placed.within;
      place = p.small;
      within = k.within;
      fields = k.fields;
      icon =
          record {
            low = λ t. icon_low s o.icon (ordered_icon s o k.ordered t);
            end = λ t. (ordered_icon s o k.ordered t).ends;
            bytes = λ t. (ordered_icon s o k.ordered t).bytes;
          };
    }

pub plan_follows : (d s : List ℕ) → Bytes s → sound_index d ≡ true → Follows s (plan_of d s)
unfolding Follows
plan_follows d s bytes ok = go (plan_of d s) (planning d s ok bytes)
  where
    go : (p : Plan) → Planning d s p → Follows s p
    go (ChangeRecord c) (changes_record o i place k p h) = record_able d s o i place k p
    go (ChangeDesktop m) (changes_desktop flags k) = (k.within, k.fields)
    go (Refuse m) (changes_none n h) = tt
