use Rattle.std.proofs.Common.{◌-◌, ◌≡◌, ◌≤◌, length}
use Rattle.print.specs.Laid.{Laid}
use Rattle.print.specs.Texts.{numbers_text}
use Rattle.print.proofs.numbers.Given as goal

abbrev pub invariant-loop-i : goal.invariant-loop-i
invariant-loop-i l = Laid l.initial.out l.at (numbers_text l.part l.ns 0 l.i) l.out l.n × (l.i ≤ length l.ns) × (length l.out ≡ length l.initial.out)

abbrev pub decreases-loop-i : goal.decreases-loop-i
decreases-loop-i l = length l.ns - l.i
