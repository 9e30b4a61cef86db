use Rattle.std.proofs.Common.{◌*◌, ◌≡◌, get_or, length}
use Rattle.places.specs.Marks.{Marked}
use Rattle.places_free.proofs.marks_of.Given as goal

abbrev pub invariant-loop-g : goal.invariant-loop-g
invariant-loop-g l = (length l.marks ≡ 65) × Marked (λ k. get_or l.pointers k 0) (12 * l.g) l.marks
