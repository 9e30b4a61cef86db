use Rattle.std.proofs.Common.{◌-◌, ◌≡◌, ◌≤◌, true}
use Rattle.places.specs.Counts.{each_below}
use Rattle.table.specs.Memory.{marked_ok}
use Rattle.table_sound.proofs.group_ok.Given as goal

abbrev pub invariant-loop-p : goal.invariant-loop-p
invariant-loop-p l = (l.p ≤ l.end) × (each_below l.p (marked_ok l.marks l.bodies) ≡ true)

abbrev pub decreases-loop-p : goal.decreases-loop-p
decreases-loop-p l = l.end - l.p
