use Rattle.std.proofs.Common.{◌-◌, ◌≡◌, ◌≤◌, length}
use Rattle.print.specs.Laid.{Laid}
use Rattle.lines.specs.Records.{bodies_text}
use Rattle.lines.proofs.records.bodies.Given as goal

abbrev pub invariant-loop-i : goal.invariant-loop-i
invariant-loop-i l = Laid l.initial.out l.at (bodies_text l.s l.i) l.out l.n × (l.i ≤ l.k) × (length l.out ≡ length l.initial.out)

abbrev pub decreases-loop-i : goal.decreases-loop-i
decreases-loop-i l = l.k - l.i
