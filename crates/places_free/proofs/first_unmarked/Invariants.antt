use Rattle.std.proofs.Common.{ℕ, ◌+◌, ◌-◌, ◌≡◌, Bool, List, get_or}
use Rattle.places.specs.Counts.{first_from}
use lib.Dec.{eqb}
use Rattle.places_free.proofs.first_unmarked.Given as goal

-- place p has no mark
abbrev pub unmarked : List ℕ → ℕ → Bool
unmarked ms p = eqb (get_or ms (p + 1) 0) 0

abbrev pub invariant-loop-p : goal.invariant-loop-p
invariant-loop-p l = first_from l.n 0 (unmarked l.marks) ≡ first_from (l.n - l.p) l.p (unmarked l.marks)
