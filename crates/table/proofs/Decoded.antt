-- The number of a plan is that of the table described; judging needs the index alone, and no order changes the number of places.
-- Assumes nothing.
use mathlib.Core.Path.{◌≡◌, refl, sym, ap, ◌∙◌}
use mathlib.Core.Bool.{Bool, true, false}
use mathlib.Core.List.{List, [], ◌∷◌}
use Prim.Native.Nat.{ℕ}
use lib.Dec.{eqb}
use Rattle.std.specs.Prelude.{Ok, Err}
use Rattle.wire.specs.Tests.{pick, has}
use Rattle.wire.proofs.Numbers.{Bytes}
use Rattle.protocol.specs.Flags.{desktop_none}
use Rattle.order.specs.declared.Order.TheVariants.{Window, Notification, Desktop}
use Rattle.order.specs.Judge.{Judged, judge_of}
use Rattle.places.specs.Sharing.{Sharing, drop, drop_all, join, fresh, full, taken, cells_only}
use Rattle.places.specs.Memory.{places_of, sharing_of}
use Rattle.places.specs.Memory as places
use Rattle.places.specs.Keyed.{keyed}
use Rattle.places.specs.Holder.{Holder, cell, same_holder, is_cell_holder, icons_of}
use Rattle.slots.specs.Sound.{sound_index}
use Rattle.index.specs.declared.RecordOrder.{RecordOrder}
use Rattle.index.specs.Orders.{on_judged, is_delete, brings_icon, brings_cached, clears_overlay, cell_at, pointer_of, holders_of}
use Rattle.index.specs.Index.{Index, pictured, without, with_record, number_in, index_after}
use Rattle.index.specs.Index as index
use Rattle.index.specs.Memory.{index_of}
use Rattle.index.specs.Plans.{plan_of, plan_number}
use Rattle.index.specs.Changes.{applied_of}
use Rattle.index.proofs.After.{plan_number_lem, plan_after}
use Rattle.table.specs.Table.{number, change_record, change_desktop, after}
use Rattle.table.specs.Memory.{decode}
use Rattle.table.specs.Promises.{IndexAlone}

-- judging asks the index alone
pub decoded_number : (x b : List ℕ) (p : List (List ℕ)) (s : List ℕ) → Bytes s → sound_index x ≡ true → plan_number (plan_of x s) ≡ number (decode x b p) s
unfolding number decode
decoded_number x b p s bytes ok = plan_number_lem x s ok bytes

pub index_alone : IndexAlone
unfolding IndexAlone after number index_after change_record change_desktop
index_alone t s = go (eqb (number_in t.index s) 0) (judge_of s)
  where
    go : (d : Bool) (j : Judged) → (pick d (on_judged j (change_record t s) (change_desktop t s) (λ n. t)) t).index
        ≡ pick d (on_judged j (index.change_record t.index s) (index.change_desktop t.index) (λ n. t.index)) t.index
    go true (Ok (Window o)) = refl
    go true (Ok (Notification o)) = refl
    go true (Ok (Desktop o)) = refl
    go true (Err r) = refl
    go false j = refl

-- ---- the number of places

abbrev places_in : Index → ℕ
places_in d = d.sharing.places

drops_places : (hs : List Holder) (t : Sharing Holder) → (drop_all same_holder hs t).places ≡ t.places
unfolding drop
drops_places [] t = refl
drops_places (h ∷ hs) t = drops_places hs (drop same_holder h t)

pictured_places : (s : List ℕ) (o : RecordOrder) (t : Sharing Holder) → (pictured s o t).places ≡ t.places
unfolding pictured taken fresh join drop
pictured_places s o t = go (brings_icon o.flags) (brings_cached o.flags) (clears_overlay o.flags) (full same_holder (holders_of s o) t)
  where
    go : (a b n c : Bool)
        → (pick a (pick c t (fresh same_holder (holders_of s o) (drop_all same_holder (holders_of s o) t)))
        (pick b (join same_holder (pointer_of o) (cell (cell_at s o.icon)) (drop same_holder (pointer_of o) t)) (pick n (drop same_holder (pointer_of o) t) t))).places ≡ t.places
    go true b n true = refl
    go true b n false = drops_places (holders_of s o) t
    go false true n c = refl
    go false false true c = refl
    go false false false c = refl

record_places : (d : Index) (s : List ℕ) (o : RecordOrder) → places_in (index.change_record d s o) ≡ places_in d
unfolding index.change_record
record_places d s o = go (is_delete o.flags)
  where
    go : (t : Bool) → places_in (pick t (without d o) (with_record d s o)) ≡ places_in d
    go true = drops_places (icons_of o.family o.window.id o.notify.id) d.sharing
    go false = pictured_places s o d.sharing

desktop_places : (d : Index) (flags : ℕ) → places_in (index.change_desktop d flags) ≡ places_in d
unfolding index.change_desktop cells_only
desktop_places d flags = go (has flags desktop_none)
  where
    go : (t : Bool) → places_in (pick t (record { listed = λ f a b. false; many = λ f. 0; sharing = cells_only is_cell_holder cell d.sharing }) d) ≡ places_in d
    go true = refl
    go false = refl

after_places : (d : Index) (s : List ℕ) → places_in (index_after d s) ≡ places_in d
unfolding index_after
after_places d s = go (eqb (number_in d s) 0) (judge_of s)
  where
    go : (t : Bool) (j : Judged) → places_in (pick t (on_judged j (index.change_record d s) (index.change_desktop d) (λ n. d)) d) ≡ places_in d
    go true (Ok (Window o)) = record_places d s _
    go true (Ok (Notification o)) = record_places d s _
    go true (Ok (Desktop o)) = desktop_places d o.flags
    go true (Err r) = refl
    go false j = refl

index_places : (x : List ℕ) → places_in (index_of x) ≡ places_of x
unfolding index_of keyed places.decode sharing_of
index_places x = refl

pub places_kept : (x s : List ℕ) → sound_index x ≡ true → Bytes s → places_of (applied_of x (plan_of x s)) ≡ places_of x
places_kept x s ok bytes =
    sym (index_places (applied_of x (plan_of x s))) ∙ ap places_in (plan_after x s ok bytes) ∙ after_places (index_of x) s ∙ index_places x
