use Rattle.std.proofs.Common.{◌≡◌, length, true}
use Rattle.places.specs.Counts.{each_below}
use Rattle.places.specs.Memory.{pointer_at}
use Rattle.places.specs.Marks.{Marked}
use Rattle.places.proofs.Rule.{is_alone}
use Rattle.places_valid.proofs.cells_apart.Given as goal

abbrev pub invariant-loop-c : goal.invariant-loop-c
invariant-loop-c l = (length l.marks ≡ 65) × Marked (pointer_at l.bytes) l.c l.marks × (each_below l.c (is_alone (pointer_at l.bytes)) ≡ true)
