-- A step by its plan: refused, without room, carried out. Assumes nothing.
use mathlib.Core.Path.{◌≡◌, refl, sym, ap, ◌∙◌}
use mathlib.Core.Bool.{Bool, true, false}
use mathlib.Core.List.{List, [], ◌∷◌}
use Prim.Native.Nat.{ℕ, ◌+◌}
use native.Mathlib.Omega.{arith}
use lib.Bits.{bit_and}
use borrow.Author.Tests.{eq-eqb, ne_eqb}
use Rattle.std.specs.Prelude.{Option, Some, None}
use Rattle.wire.specs.Tests.{pick}
use Rattle.protocol.specs.Flags.{flag_cached_icon, flag_deleted, flag_icon, flag_new, flag_overlay_none}
use Rattle.rows.proofs.Absent.{unmet}
use Rattle.places.specs.declared.Family.TheVariants.{Windows}
use Rattle.places.specs.Changes.{point_all, free_place, share_of}
use Rattle.index.specs.declared.RecordOrder.{RecordOrder}
use Rattle.index.specs.declared.Change.{Change}
use Rattle.index.specs.declared.Plan.{Plan}
use Rattle.index.specs.declared.Plan.TheVariants.{ChangeRecord, ChangeDesktop, Refuse}
use Rattle.index.specs.declared.Stepped.{Stepped}
use Rattle.index.specs.Orders.{is_new, is_delete, cell_at}
use Rattle.index.specs.Plans.{lacks_picture, pointer_for, beside_of, change_with, change_of, plan_in, plan_number, plan_slot}
use Rattle.index.specs.Changes.{listed_of, removed_of, changed_of, applied_of}
use Rattle.single.specs.Single.{BringsCached, BringsIcon}
use Rattle.index.specs.Steps.{step_number, change_held, step_held, stepped_of, slot_stepped, StepOutcome, SlotOutcome}
use Rattle.index.proofs.Ways.{lacks_none, picture_none, picture_shared, picture_taken, changed_old, applied_record}
use Rattle.index.proofs.PlansMade.{in_plain, in_full, in_taken}

-- ---- any plan

same : (full : Bool) (x : List ℕ) → x ≡ pick full x x
same true x = refl
same false x = refl

full_held : (p : Plan) → step_held true p ≡ 0
full_held (ChangeRecord c) = refl
full_held (ChangeDesktop flags) = refl
full_held (Refuse n) = refl

-- a change that is no icon's tells of no place
none_held : (full t : Bool) → ◌≡◌ {A = ℕ} (pick full 0 (pick t 0 0)) 0
none_held true t = refl
none_held false true = refl
none_held false false = refl

module _ (full : Bool) (x : List ℕ) where
  pub steps_as : {p q : Plan} {r : Stepped} {x' : List ℕ} → p ≡ q → StepOutcome full x p r x' → StepOutcome full x q r x'
  steps_as e h = rw (← e) h

  pub steps_refused : {n : ℕ} {p : Plan} {r : Stepped} → (n ≡ 0 → ⊥) → r ≡ record { number = n; slot = 48; held = 0 } → Refuse n ≡ p → StepOutcome full x p r x
  unfolding step_number stepped_of applied_of
  steps_refused {n} h e g = rw (← g) (e ∙ rw (ne_eqb n 0 h), same full x)

  module _ (p : Plan) (zero : plan_number p ≡ 0) {r : Stepped} where
    pub steps_full : full ≡ true → r ≡ record { number = 12; slot = plan_slot p; held = 0 } → StepOutcome full x p r x
    unfolding step_number stepped_of
    steps_full f e = (e ∙ rw (zero, f, full_held p), rw f)

    pub steps_done : {x' : List ℕ} → full ≡ false → r ≡ record { number = 0; slot = plan_slot p; held = step_held false p } → x' ≡ applied_of x p → StepOutcome full x p r x'
    unfolding step_number stepped_of
    steps_done f e g = (e ∙ rw (zero, f), g ∙ rw f)

-- ---- an order that changes no picture

module _ (full : Bool) (x : List ℕ) (o : RecordOrder) (i : ℕ) where
  pub slot_full : full ≡ true → SlotOutcome full x o i (record { number = 12; slot = i; held = 0 }) x
  slot_full f = (rw f, rw f)

  module _ (f : full ≡ false) where
    pub slot_removed : {x' : List ℕ} → (bit_and o.flags flag_deleted ≡ 0 → ⊥) → x' ≡ removed_of x i → SlotOutcome full x o i (record { number = 0; slot = i; held = 0 }) x'
    unfolding slot_stepped
    slot_removed h e = (rw f, e ∙ rw (f, ne_eqb (bit_and o.flags flag_deleted) 0 h))

    module _ (h : bit_and o.flags flag_deleted ≡ 0) {fresh : Bool} (new : fresh ≡ is_new o.family o.flags) where
      pub slot_listed : {x' : List ℕ} → fresh ≡ true → x' ≡ listed_of x i o.window.id o.notify.id → SlotOutcome full x o i (record { number = 0; slot = i; held = 0 }) x'
      unfolding slot_stepped
      slot_listed t e = (rw f, e ∙ rw (f, eq-eqb (bit_and o.flags flag_deleted) 0 h, ← new, t))

      pub slot_same : fresh ≡ false → SlotOutcome full x o i (record { number = 0; slot = i; held = 0 }) x
      unfolding slot_stepped
      slot_same t = (rw f, rw (f, eq-eqb (bit_and o.flags flag_deleted) 0 h, ← new, t))

  -- without icon, cached icon and overlay icon set to none the change of the record is that of its slot
  pub slot_steps : (s : List ℕ) {r : Stepped} {x' : List ℕ} → bit_and o.flags 0xC0200000 ≡ 0 → SlotOutcome full x o i r x' → StepOutcome full x (plan_in x s o i) r x'
  unfolding step_number stepped_of applied_of slot_stepped changed_of
  slot_steps s none h =
      let icon : bit_and o.flags flag_icon ≡ 0 = unmet o.flags 0xC0200000 30 1 none refl in
      let cached : bit_and o.flags flag_cached_icon ≡ 0 = unmet o.flags 0xC0200000 31 1 none refl in
      let overlay : bit_and o.flags flag_overlay_none ≡ 0 = unmet o.flags 0xC0200000 21 1 none refl in
      steps_as full x (in_plain x s o i refl (lacks_none x o.flags (cell_at s o.icon) cached) refl refl refl icon refl)
      (h.0 ∙ ap (λ (n : ℕ). record { number = pick full 12 0; slot = i; held = n }) (held icon), h.1 ∙ ap (pick full x) (changed icon cached overlay))
    where
      held : bit_and o.flags flag_icon ≡ 0 → 0 ≡ pick full 0 (change_held (change_of s o i 0))
      held icon = rw (eq-eqb (bit_and o.flags flag_icon) 0 icon) (sym (none_held full (is_delete o.flags)))

      changed : bit_and o.flags flag_icon ≡ 0 → bit_and o.flags flag_cached_icon ≡ 0 → bit_and o.flags flag_overlay_none ≡ 0 → slot_stepped x o i ≡ changed_of x (change_of s o i 0)
      changed icon cached overlay =
          let c = change_of s o i 0 in
          let l = pick c.fresh (listed_of x i o.window.id o.notify.id) x in
          ap (pick c.deleted (removed_of x i)) (picture_none l c icon cached overlay)

-- without the new bit no window is new
pub old_window : (flags : ℕ) → bit_and flags flag_new ≡ 0 → is_new Windows flags ≡ false
old_window flags h = rw (eq-eqb (bit_and flags flag_new) 0 h)

-- ---- a cached icon alone

module _ (full : Bool) (x s : List ℕ) (o : RecordOrder) (i : ℕ) (brings : BringsCached o.flags) {c : ℕ} (e : c ≡ cell_at s o.icon) {t : Bool}
    (h : t ≡ lacks_picture x o.flags c) (k : t ≡ false) where
  pub share_full : full ≡ true → StepOutcome full x (plan_in x s o i) (record { number = 12; slot = i; held = 0 }) x
  share_full f =
      let pointer = pointer_for i o.flags in
      let held = beside_of c pointer in
      steps_as full x (in_plain x s o i e h k refl refl brings.icon refl) (steps_full full x (ChangeRecord (change_with o i held pointer 0)) refl f refl)

  pub share_done : {pointer held : ℕ} {x' : List ℕ} → full ≡ false → o.family ≡ Windows → pointer ≡ pointer_for i o.flags → held ≡ beside_of c pointer → x' ≡ share_of x pointer held
      → StepOutcome full x (plan_in x s o i) (record { number = 0; slot = i; held = 0 }) x'
  share_done {pointer} {held} f w g b y =
      let r = change_with o i held pointer 0 in
      let deleted : r.deleted ≡ false = rw (eq-eqb (bit_and o.flags flag_deleted) 0 brings.deleted) in
      let fresh : r.fresh ≡ false = rw w (old_window o.flags brings.new) in
      steps_as full x (in_plain x s o i e h k g b brings.icon refl)
      (steps_done full x (ChangeRecord r) refl f (rw (deleted, eq-eqb (bit_and o.flags flag_icon) 0 brings.icon)) (applied_record x refl (changed_old x r deleted fresh (picture_shared x r brings.icon brings.cached y))))

-- ---- an icon alone

module _ (c : Change) (t : c.deleted ≡ false) where
  pub held_plain : bit_and c.flags flag_icon ≡ 0 → 0 ≡ change_held c
  held_plain h = rw (t, eq-eqb (bit_and c.flags flag_icon) 0 h)

  pub held_icon : (bit_and c.flags flag_icon ≡ 0 → ⊥) → c.place + 1 ≡ change_held c
  held_icon h = rw (t, ne_eqb (bit_and c.flags flag_icon) 0 h)

module _ (full : Bool) (x s : List ℕ) (o : RecordOrder) (i : ℕ) (brings : BringsIcon o.flags) {c pointer beside : ℕ} (e : c ≡ cell_at s o.icon) (g : pointer ≡ pointer_for i o.flags)
    (b : beside ≡ beside_of c pointer) {f : Option ℕ} (m : f ≡ free_place x (beside ∷ pointer ∷ [])) where
  pub take_none : {r : Stepped} → f ≡ None → r ≡ record { number = 17; slot = 48; held = 0 } → StepOutcome full x (plan_in x s o i) r x
  take_none q is = steps_refused full x (λ z. omega (arith, z)) is (in_full x s o i e (lacks_none x o.flags c brings.cached) refl g b brings.icon m q)

  module _ {p : ℕ} (q : f ≡ Some p) where
    pub take_full : full ≡ true → StepOutcome full x (plan_in x s o i) (record { number = 12; slot = i; held = 0 }) x
    take_full y =
        steps_as full x (in_taken x s o i e (lacks_none x o.flags c brings.cached) refl g b brings.icon m q refl) (steps_full full x (ChangeRecord (change_with o i beside pointer p)) refl y refl)

    pub take_done : {x' : List ℕ} → full ≡ false → o.family ≡ Windows → x' ≡ point_all x (beside ∷ pointer ∷ []) (p + 1)
        → StepOutcome full x (plan_in x s o i) (record { number = 0; slot = i; held = p + 1 }) x'
    take_done y w z =
        let r = change_with o i beside pointer p in
        let deleted : r.deleted ≡ false = rw (eq-eqb (bit_and o.flags flag_deleted) 0 brings.deleted) in
        let fresh : r.fresh ≡ false = rw w (old_window o.flags brings.new) in
        steps_as full x (in_taken x s o i e (lacks_none x o.flags c brings.cached) refl g b brings.icon m q refl)
        (steps_done full x (ChangeRecord r) refl y (rw (deleted, ne_eqb (bit_and o.flags flag_icon) 0 brings.icon)) (applied_record x refl (changed_old x r deleted fresh (picture_taken x r brings.icon z))))
