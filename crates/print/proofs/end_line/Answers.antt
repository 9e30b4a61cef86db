-- The place after the line's end is past the memory only where the line's own end is.
use Rattle.std.proofs.Common.{rules, arith, ℕ, ◌∷◌, [], ◌≡◌, ◌+◌, ◌-◌, ◌≤◌, ◌<◌, List, length, take, min, length-take, subst, refl}
use Rattle.print.specs.Laid.{after, fitting}
use Rattle.print.proofs.end_line.Goals as goal

not_before : (d : List ℕ) (at : ℕ) (s : List ℕ) → at ≤ after d at s
unfolding after fitting
not_before d at s = omega arith

within : (d : List ℕ) (at : ℕ) (s : List ℕ) → at ≤ length d → after d at s ≤ length d
unfolding after fitting
within d at s h =
    let lt : length (take (length d - at) s) ≡ min (length d - at) (length s) = length-take (length d - at) s in
    omega arith

pub returns-then-n-out-clause-answer : goal.returns-then-n-out-clause-answer
returns-then-n-out-clause-answer g c =
    let place = c.byte-n.ensures.place in
    let low = within c.args.out.now c.args.at (10 ∷ []) in
    (λ f. search rules, λ h. let m = low h in search rules)

pub returns-in_err-write_all-clause-failed : goal.returns-in_err-write_all-clause-failed
returns-in_err-write_all-clause-failed g c =
    let place = c.byte-n.ensures.place in
    let low = not_before c.args.out.now c.args.at (10 ∷ []) in
    search rules

pub returns-clause-answer : goal.returns-clause-answer
returns-clause-answer g c =
    let place = c.byte-n.ensures.place in
    let low = not_before c.args.out.now c.args.at (10 ∷ []) in
    (λ _. search rules, λ _. refl)
