-- Memories that describe a table do so after the change of a plan, and after emptying. Assumes nothing.
use mathlib.Core.Path.{◌≡◌, refl, sym, ap, ◌∙◌}
use mathlib.Core.Bool.{Bool, true, false}
use mathlib.Core.List.{List}
use Prim.Native.Nat.{ℕ, ◌+◌, ◌-◌, ◌<◌}
use native.Mathlib.Omega.{arith}
use lib.Dec.{eqb}
use borrow.Author.Tests.{eqb-true, eqb-false, ne_eqb}
use Rattle.wire.specs.Tests.{pick, has}
use Rattle.protocol.specs.Flags.{desktop_none}
use Rattle.places.specs.declared.Family.{Family}
use Rattle.places.specs.Memory.{places_of, pointer_at}
use Rattle.slots.specs.Slots.{is_used}
use Rattle.slots.specs.Sound.{sound_index}
use Rattle.slots.proofs.Soundness.{Within, within_slots, one_family, free_is, sound_has}
use Rattle.index.specs.declared.RecordOrder.{RecordOrder}
use Rattle.index.specs.declared.Change.{Change}
use Rattle.index.specs.declared.Plan.TheVariants.{ChangeRecord, ChangeDesktop}
use Rattle.index.specs.Orders.{is_delete}
use Rattle.index.specs.Plans.{change_of}
use Rattle.index.specs.Changes.{changed_of, cleared_of, Fits}
use Rattle.index.proofs.Memory.{cleared_is}
use Rattle.index.proofs.Numbered.{Planned}
use Rattle.body.specs.Bodies.{desktop_fields, slot_of, body_ok}
use Rattle.picture.specs.Kept.{IconThere}
use Rattle.picture.specs.Pictures.{head_ok}
use Rattle.table.specs.Table.{field_rows}
use Rattle.table.specs.Memory.{heads_of}
use Rattle.table.specs.Changes.{puts_picture, slot_after, desktop_slot, bodies_by, Able}
use Rattle.table.proofs.OfKinds.{OfRecord, OfDesktop}
use Rattle.table.proofs.Rule.{TableSound}
use Rattle.table.proofs.Bodied.{slot_ok_lem, desktop_ok}
use Rattle.table.proofs.Pointed.{used_after, freed_after, was_used, pointers_after, cleared_pointers}
use Rattle.table.proofs.Heads.{desk_slot}
use Rattle.table.proofs.Changed.{slot_roomy, bodies_are, heads_ok, head_there, desk_is}
use Rattle.wire.proofs.Tests.{never}

-- a pointer at nothing, or at a place whose head is in its sets
abbrev HeadAt : List ℕ → ℕ → Type 0
HeadAt b v = (v ≡ 0 → ⊥) → head_ok (heads_of b) (v - 1) ≡ true

-- ---- after the change of a record

module _ (x b s : List ℕ) (lent : ℕ) (g : TableSound x b lent) (o : RecordOrder) (i place : ℕ) (k : OfRecord s o) (p : Planned x s o i place)
    (fits : Fits (change_of s o i place)) (a : Able s (change_of s o i place)) (icon : puts_picture (change_of s o i place) ≡ true → IconThere s o.icon) where
  abbrev c : Change
  c = change_of s o i place

  abbrev all : List ℕ
  all = bodies_by s (ChangeRecord c) b

  abbrev new : List ℕ
  new = slot_after s c (slot_of b i)

  below : i < 48
  below = a.slot

  new_ok : body_ok (field_rows o.family) 0 0 new ≡ true
  new_ok =
      slot_ok_lem s c (slot_of b i) (slot_roomy s c b g.big a icon) a
      (λ t. g.records o.family i p.placed.within (was_used x s o i place (sound_has x g.index) k.ordered p fits t))

  slots : (j : ℕ) → j < 49 → slot_of all j ≡ pick (is_delete o.flags) (slot_of b j) (pick (eqb i j) new (slot_of b j))
  slots j l = (bodies_are s c b g.big a icon).at j l

  -- a slot that is used after was so before, unless it is the record's own
  records_ok_lem : (f : Family) (j : ℕ) → Within f j → is_used (changed_of x c) j ≡ true → body_ok (field_rows f) 0 0 (slot_of all j) ≡ true
  records_ok_lem f j w u = go (eqb i j) (is_delete o.flags) refl refl (slots j (let l = within_slots f j w in omega arith))
    where
      before : eqb i j ≡ false → is_used x j ≡ true
      before e = sym (used_after x s o i place (sound_has x g.index) k.ordered p fits j (λ q. eqb-false i j e (sym q))) ∙ u

      go : (t d : Bool) → eqb i j ≡ t → is_delete o.flags ≡ d → slot_of all j ≡ pick d (slot_of b j) (pick t new (slot_of b j)) → body_ok (field_rows f) 0 0 (slot_of all j) ≡ true
      go true true e d h =
          never (sym (freed_after x s o i place (sound_has x g.index) k.ordered p fits d) ∙ ap (is_used (changed_of x c)) (eqb-true i j e) ∙ u)
      go true false e d h =
          let q = eqb-true i j e in
          let fam : f ≡ o.family = one_family o.family f i p.placed.within (rw q w) in
          rw (h, fam) new_ok
      go false true e d h = rw h (g.records f j w (before e))
      go false false e d h = rw h (g.records f j w (before e))

  pub record_sounded : sound_index (changed_of x c) ≡ true → places_of (changed_of x c) ≡ places_of x → TableSound (changed_of x c) all lent
  record_sounded ok places =
      let l = below in
      let e = (bodies_are s c b g.big a icon).long in
      let m = g.big in
      let q = g.lends in
      record {
        big = omega arith;
        index = ok;
        lends = omega arith;
        records = records_ok_lem;
        desktop = rw (slots 48 (omega arith)) (desk (is_delete o.flags));
        heads = pointers_after x s o i place (sound_has x g.index) k.ordered p fits (HeadAt all) (λ z. absurd (z refl))
            (λ h ne. heads_ok s c b g.big a icon (pointer_at x h - 1) (g.heads h ne)) there;
      }
    where
      desk : (d : Bool) → body_ok desktop_fields 1 1 (pick d (slot_of b 48) (pick (eqb i 48) new (slot_of b 48))) ≡ true
      desk true = g.desktop
      desk false = rw (ne_eqb i 48 (λ e. omega (arith, below))) g.desktop

      there : puts_picture c ≡ true → HeadAt all (place + 1)
      there t z = let e : place + 1 - 1 ≡ place = omega arith in rw e (head_there s c b g.big a icon t)

-- ---- after the change of the desktop state

module _ (x b s : List ℕ) (lent : ℕ) (g : TableSound x b lent) (flags : ℕ) (k : OfDesktop s flags) where
  abbrev now : List ℕ
  now = bodies_by s (ChangeDesktop flags) b

  desk_slots : (j : ℕ) → slot_of now j ≡ pick (eqb 48 j) (desktop_slot flags s (slot_of b 48)) (slot_of b j)
  desk_slots = (desk_is s flags b g.big k.within k.fields).at

  abbrev index : List ℕ
  index = pick (has flags desktop_none) (cleared_of x) x

  desk_records : (f : Family) (i : ℕ) → Within f i → is_used index i ≡ true → body_ok (field_rows f) 0 0 (slot_of now i) ≡ true
  desk_records f i w = go (has flags desktop_none)
    where
      go : (t : Bool) → is_used (pick t (cleared_of x) x) i ≡ true → body_ok (field_rows f) 0 0 (slot_of now i) ≡ true
      go true u = never (sym (free_is (cleared_of x) i ((cleared_is x (sound_has x g.index).long).slots i (within_slots f i w))) ∙ u)
      go false u =
          let l = within_slots f i w in
          let n : eqb 48 i ≡ false = ne_eqb 48 i (λ q. omega arith) in
          let e : slot_of now i ≡ slot_of b i = desk_slots i ∙ rw n in
          rw e (g.records f i w u)

  desk_holders : (h : ℕ) → HeadAt now (pointer_at index h)
  desk_holders h = rw (desk_is s flags b g.big k.within k.fields).heads (go (has flags desktop_none))
    where
      go : (t : Bool) → HeadAt b (pointer_at (pick t (cleared_of x) x) h)
      go true = cleared_pointers (HeadAt b) x (sound_has x g.index).long (λ z. absurd (z refl)) g.heads h
      go false = g.heads h

  pub desktop_sounded : sound_index index ≡ true → places_of index ≡ places_of x → TableSound index now lent
  desktop_sounded ok places =
      let e = (desk_is s flags b g.big k.within k.fields).long in
      let m = g.big in
      let q = g.lends in
      record {
        big = omega arith;
        index = ok;
        lends = omega arith;
        records = desk_records;
        desktop = rw (desk_slots 48) (desktop_ok flags s (slot_of b 48) (desk_slot b (omega (arith, g.big))) k.within k.fields g.desktop);
        heads = desk_holders;
      }
