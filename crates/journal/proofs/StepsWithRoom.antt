-- A step with room carries out the whole plan: an order replayed with nothing looked up. Assumes nothing.
use mathlib.Core.Path.{◌≡◌, refl, sym, ap, ◌∙◌}
use mathlib.Core.Bool.{Bool, true, false}
use mathlib.Core.List.{List}
use Prim.Native.Nat.{ℕ}
use lib.Dec.{eqb}
use borrow.Author.Tests.{eqb-true}
use Rattle.wire.specs.Tests.{pick}
use Rattle.index.specs.declared.Plan.{Plan}
use Rattle.index.specs.declared.Stepped.{Stepped}
use Rattle.index.specs.Plans.{plan_of, plan_number, plan_slot}
use Rattle.index.specs.Changes.{applied_of}
use Rattle.index.specs.Steps.{step_number, step_of, stepped_of}
use Rattle.follow.specs.declared.Want.{Want}
use Rattle.std.specs.Prelude.{Option, None}
use Rattle.follow.specs.Follow.{followed_of}
use Rattle.journal.specs.Replay.{index_after, followed_after}

number_with_room : (p : Plan) → step_number false p ≡ plan_number p
unfolding step_number
number_with_room p = go (eqb (plan_number p) 0) refl
  where
    go : (x : Bool) → eqb (plan_number p) 0 ≡ x → pick x 0 (plan_number p) ≡ plan_number p
    go true e = sym (eqb-true (plan_number p) 0 e)
    go false e = refl

index_with_room : (x : List ℕ) (p : Plan) → stepped_of false x p ≡ applied_of x p
unfolding stepped_of
index_with_room x p = refl

nothing_followed : {want : Option Want} → want ≡ None → (q : ℕ) (d m s : List ℕ) → m ≡ followed_after want q d s m
unfolding followed_of
nothing_followed is q d m s = rw is

pub step_replays : {want : Option Want} → want ≡ None → (q : ℕ) (d m s : List ℕ) {r : Stepped} {d' : List ℕ} → r ≡ step_of false (plan_of d s) → d' ≡ stepped_of false d (plan_of d s)
    → ((r.number ≡ plan_number (plan_of d s)) × (r.slot ≡ plan_slot (plan_of d s))) × ((d' ≡ index_after d s) × (m ≡ followed_after want q d s m))
step_replays is q d m s says makes =
    let p = plan_of d s in
    ((ap (λ (r : Stepped). r.number) says ∙ number_with_room p, ap (λ (r : Stepped). r.slot) says), (makes ∙ index_with_room d p, nothing_followed is q d m s))
