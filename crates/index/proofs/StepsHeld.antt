-- The places that are pointed at after a step: an icon has taken the first that is free. Assumes nothing.
use mathlib.Core.Path.{◌≡◌, refl, sym, subst, ◌∙◌}
use mathlib.Core.Bool.{Bool, true, false}
use mathlib.Core.List.{List, [], ◌∷◌}
use Prim.Native.Nat.{ℕ, ◌+◌, ◌<◌}
use Rattle.std.specs.Prelude.{Ok, Err, Option, Some, None}
use Rattle.wire.specs.Tests.{pick}
use Rattle.protocol.specs.Refusals.{number_of}
use Rattle.order.specs.declared.Order.TheVariants.{Window, Notification, Desktop}
use Rattle.order.specs.Judge.{Judged, judge_of}
use Rattle.places.specs.Counts.{on_found}
use Rattle.places.specs.Changes.{point_all, free_place}
use Rattle.places.specs.Held.{HeldBelow}
use Rattle.places.proofs.HeldTaken.{held_none, held_taken}
use Rattle.slots.specs.Sound.{sound_index}
use Rattle.slots.proofs.Ways.{sound_long, sound_holders}
use Rattle.index.specs.declared.RecordOrder.{RecordOrder}
use Rattle.index.specs.declared.Place.{Place}
use Rattle.index.specs.declared.Place.TheVariants.{Slot, Not}
use Rattle.index.specs.declared.Plan.{Plan}
use Rattle.index.specs.declared.Stepped.{Stepped}
use Rattle.index.specs.declared.Plan.TheVariants.{ChangeRecord, ChangeDesktop, Refuse}
use Rattle.index.specs.Orders.{on_judged, is_new, is_delete, brings_icon, cell_at}
use Rattle.index.specs.Plans.{slot_for, lacks_picture, pointer_for, cell_for, change_of, plan_at, plan_in, on_place, plan_record, plan_of}
use Rattle.index.specs.Changes.{listed_of, pictured_of, changed_of, removed_of, applied_of}
use Rattle.index.specs.Steps.{step_held, step_of, stepped_of, StepOutcome}
use Rattle.index.proofs.Held.{which_small, beside_small}
use Rattle.index.proofs.Memory.{still_free, still_valid, listed_still, listed_long}
use Rattle.index.proofs.PlansMade.{slot_small}
use native.Mathlib.Omega.{arith}

abbrev Holds : Bool → List ℕ → Plan → Type 0
Holds full x p = HeldBelow (stepped_of full x p) (step_held full p)

module _ (full : Bool) (x s : List ℕ) (sound : sound_index x ≡ true) where
  module _ (o : RecordOrder) (i : ℕ) (low : i < 48) where
    abbrev ns : List ℕ
    ns = cell_for s o i ∷ pointer_for i o.flags ∷ []

    -- a new record is listed before its icon takes a place: that changes no pointer
    taken : (fresh : Bool) (q : ℕ) → free_place x ns ≡ Some q → HeldBelow (point_all (pick fresh (listed_of x i o.window.id o.notify.id) x) ns (q + 1)) (q + 1)
    taken fresh q e =
        let w = which_small o.flags in
        let lp : pointer_for i o.flags < 156 = omega arith in
        go fresh (beside_small (cell_at s o.icon) (pointer_for i o.flags) lp) lp
      where
        go : (t : Bool) → cell_for s o i < 156 → pointer_for i o.flags < 156 → HeldBelow (point_all (pick t (listed_of x i o.window.id o.notify.id) x) ns (q + 1)) (q + 1)
        go true lc lp =
            let l = listed_of x i o.window.id o.notify.id in
            let still = listed_still x i o.window.id o.notify.id (sound_long x sound) low in
            let long = listed_long x i o.window.id o.notify.id (sound_long x sound) low in
            held_taken l (cell_for s o i) (pointer_for i o.flags) q (still_valid x l still long (sound_holders x sound)) lc lp (still_free x l ns still ∙ e)
        go false lc lp = held_taken x (cell_for s o i) (pointer_for i o.flags) q (sound_holders x sound) lc lp e

    icon-holds : (q : ℕ) → free_place x ns ≡ Some q → brings_icon o.flags ≡ true → Holds full x (ChangeRecord (change_of s o i q))
    unfolding stepped_of applied_of changed_of pictured_of
    icon-holds q e t = rw t (go full (is_delete o.flags))
      where
        go : (f d : Bool) → HeldBelow (pick f x (pick d (removed_of x i) (point_all (pick (is_new o.family o.flags) (listed_of x i o.window.id o.notify.id) x) ns (q + 1)))) (pick f 0 (pick d 0 (q + 1)))
        go true d = held_none x
        go false true = held_none (removed_of x i)
        go false false = taken (is_new o.family o.flags) q e

    plain-holds : brings_icon o.flags ≡ false → Holds full x (ChangeRecord (change_of s o i 0))
    plain-holds t = rw t (go (stepped_of full x (ChangeRecord (change_of s o i 0))) full (is_delete o.flags))
      where
        go : (y : List ℕ) (f d : Bool) → HeldBelow y (pick f 0 (pick d 0 0))
        go y true d = held_none y
        go y false true = held_none y
        go y false false = held_none y

    at-holds : Holds full x (plan_at x s o i)
    unfolding plan_at
    at-holds = go (brings_icon o.flags) (free_place x ns) refl refl
      where
        go : (t : Bool) (f : Option ℕ) → brings_icon o.flags ≡ t → free_place x ns ≡ f
            → Holds full x (pick t (on_found f (Refuse 17) (λ p. ChangeRecord (change_of s o i p))) (ChangeRecord (change_of s o i 0)))
        go true (Some q) t e = icon-holds q e t
        go true None t e = held_none (stepped_of full x (Refuse 17))
        go false f t e = plain-holds t

    in-holds : Holds full x (plan_in x s o i)
    in-holds = go (lacks_picture x o.flags (cell_at s o.icon))
      where
        go : (t : Bool) → Holds full x (pick t (Refuse 11) (plan_at x s o i))
        go true = held_none (stepped_of full x (Refuse 11))
        go false = at-holds

  record_holds : (o : RecordOrder) → Holds full x (plan_record x s o)
  unfolding plan_record
  record_holds o = go (slot_for x o) refl
    where
      go : (p : Place) → slot_for x o ≡ p → Holds full x (on_place p (plan_in x s o))
      go (Slot i) e = in-holds o i (slot_small x o (sym e) refl)
      go (Not n) e = held_none (stepped_of full x (Refuse n))

  pub step_holds : Holds full x (plan_of x s)
  unfolding plan_of
  step_holds = go (judge_of s)
    where
      go : (j : Judged) → Holds full x (on_judged j (plan_record x s) ChangeDesktop Refuse)
      go (Ok (Window o)) = record_holds (record { family = _; window = o.window; notify = record { id = 0 }; flags = o.flags; icon = o.icon })
      go (Ok (Notification o)) = record_holds (record { family = _; window = o.window; notify = o.notify; flags = o.flags; icon = o.icon })
      go (Ok (Desktop o)) = held_none (stepped_of full x (ChangeDesktop o.flags))
      go (Err r) = held_none (stepped_of full x (Refuse (number_of r.refusal)))

  -- the whole outcome of a step
  pub step_told : {r : Stepped} {x' : List ℕ} → StepOutcome full x (plan_of x s) r x' → (r ≡ step_of full (plan_of x s)) × ((x' ≡ stepped_of full x (plan_of x s)) × HeldBelow x' r.held)
  step_told {r} {x'} h = (h.0, (h.1, subst (λ (y : List ℕ). HeldBelow y r.held) (sym h.1) (subst (λ (w : Stepped). HeldBelow (stepped_of full x (plan_of x s)) w.held) (sym h.0) step_holds)))
