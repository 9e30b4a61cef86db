use Rattle.std.proofs.Common.{◌-◌, ◌≡◌, ◌≤◌}
use Rattle.area.specs.Cutting.{left_over}
use Rattle.area.proofs.met.Given as goal

abbrev pub invariant-loop-k : goal.invariant-loop-k
invariant-loop-k l = (l.k ≤ l.n) × (left_over l.s l.n l.q ≡ left_over l.s l.k l.q)

abbrev pub decreases-loop-k : goal.decreases-loop-k
decreases-loop-k l = l.k
