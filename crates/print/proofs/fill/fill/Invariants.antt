use Rattle.std.proofs.Common.{◌-◌, ◌≡◌, ◌≤◌, length}
use Rattle.print.proofs.Templates.{Left}
use Rattle.print.proofs.fill.fill.Given as goal

abbrev pub invariant-loop-i : goal.invariant-loop-i
invariant-loop-i l = Left l.template l.ns l.zs l.initial.out l.at l.out l.n l.k l.j l.i × (l.k ≤ l.i) × (l.j ≤ l.i) × (l.i ≤ length l.template) × (length l.out ≡ length l.initial.out)

abbrev pub decreases-loop-i : goal.decreases-loop-i
decreases-loop-i l = length l.template - l.i
