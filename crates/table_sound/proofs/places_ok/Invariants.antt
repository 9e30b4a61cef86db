use Rattle.std.proofs.Common.{◌*◌, ◌-◌, ◌≡◌, ◌≤◌, true}
use Rattle.places.specs.Counts.{each_below}
use Rattle.table.specs.Memory.{marked_ok}
use Rattle.table_sound.proofs.places_ok.Given as goal

abbrev pub invariant-loop-g : goal.invariant-loop-g
invariant-loop-g l = (l.g ≤ 8) × (each_below (8 * l.g) (marked_ok l.marks l.bodies) ≡ true)

abbrev pub decreases-loop-g : goal.decreases-loop-g
decreases-loop-g l = 8 - l.g
