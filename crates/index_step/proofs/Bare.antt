-- A window's order that has no field, for a listed window: the number of its slot's refusal, or what is done in its slot. Assumes nothing.
use mathlib.Core.Path.{◌≡◌, ap, ◌∙◌}
use mathlib.Core.Bool.{Bool, false}
use mathlib.Core.List.{List}
use Prim.Native.Nat.{ℕ, ◌<◌}
use lib.Bits.{bit_and}
use Rattle.protocol.specs.Flags.{flag_new}
use Rattle.index.specs.declared.RecordOrder.{RecordOrder}
use Rattle.index.specs.declared.Place.{Place}
use Rattle.index.specs.declared.Place.TheVariants.{Slot, Not}
use Rattle.index.specs.declared.Stepped.{Stepped}
use Rattle.index.specs.Orders.{is_new, record_of}
use Rattle.index.specs.Plans.{slot_for, plan_in, plan_record}
use Rattle.index.specs.Steps.{StepOutcome}
use Rattle.index.proofs.PlansMade.{slot_small, not_zero, record_refused, record_in_lem}
use Rattle.index.proofs.StepsOfPlans.{steps_as, steps_refused, old_window}

module _ (s : List ℕ) (flags : ℕ) {o : RecordOrder} (e : o ≡ record_of flags s) where
  pub bare_old : bit_and flags flag_new ≡ 0 → is_new o.family o.flags ≡ false
  bare_old h = rw e (old_window flags h)

  module _ (x : List ℕ) {p : Place} (placed : p ≡ slot_for x o) where
    pub bare_small : {i : ℕ} → p ≡ Slot i → i < 48
    bare_small g = slot_small x o placed g

    module _ (full : Bool) {r : Stepped} where
      pub bare_refused : {n : ℕ} → p ≡ Not n → r ≡ record { number = n; slot = 48; held = 0 } → StepOutcome full x (plan_record x s (record_of flags s)) r x
      bare_refused g h = steps_refused full x (not_zero x o placed g) h (record_refused x s o placed g ∙ ap (plan_record x s) e)

      pub bare_done : {i : ℕ} {x' : List ℕ} → p ≡ Slot i → StepOutcome full x (plan_in x s o i) r x' → StepOutcome full x (plan_record x s (record_of flags s)) r x'
      bare_done g h = steps_as full x (record_in_lem x s o placed g ∙ ap (plan_record x s) e) h
