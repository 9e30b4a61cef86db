use Rattle.std.proofs.Common.{◌-◌, ◌/◌, ◌≡◌, ◌≤◌, length}
use Rattle.print.specs.Laid.{Laid}
use Rattle.print.specs.Texts.{laid_rectangles_text}
use Rattle.print.proofs.rectangles.Given as goal

abbrev pub invariant-loop-i : goal.invariant-loop-i
invariant-loop-i l = Laid l.initial.out l.at (laid_rectangles_text l.ns l.i) l.out l.n × (l.i ≤ length l.ns / 4) × (length l.out ≡ length l.initial.out)

abbrev pub decreases-loop-i : goal.decreases-loop-i
decreases-loop-i l = length l.ns / 4 - l.i
