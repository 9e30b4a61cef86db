use Rattle.std.proofs.Common.{◌-◌, ◌≡◌, ◌≤◌, length}
use Rattle.wire.specs.Parts.{padded}
use Rattle.view.specs.Views.{each_of}
use Rattle.view.proofs.parts.put_sides.Given as goal

-- After i turns the first i numbers stand before zeros.
abbrev pub invariant-loop-i : goal.invariant-loop-i
invariant-loop-i l = (l.i ≤ l.n) × (length l.out ≡ 64) × (l.out ≡ padded 0 64 (each_of (λ v. v) 2 l.i l.s l.at))

abbrev pub decreases-loop-i : goal.decreases-loop-i
decreases-loop-i l = l.n - l.i
