use Rattle.std.proofs.Common.{◌-◌, ◌≡◌, ◌≤◌, length}
use Rattle.print.specs.Laid.{Laid}
use Rattle.print.specs.Texts.{numbers_text}
use Rattle.print.proofs.rectangle.Given as goal

abbrev pub invariant-loop-j : goal.invariant-loop-j
invariant-loop-j l = Laid l.initial.out l.at (numbers_text 44 l.ns l.from l.j) l.out l.n × (l.j ≤ 4) × (length l.out ≡ length l.initial.out)

abbrev pub decreases-loop-j : goal.decreases-loop-j
decreases-loop-j l = 4 - l.j
