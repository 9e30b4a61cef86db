use Rattle.std.proofs.Common.{◌≡◌, get_or, length}
use Rattle.places.specs.Marks.{Marked}
use Rattle.places_free.proofs.mark_group.Given as goal

abbrev pub invariant-loop-h : goal.invariant-loop-h
invariant-loop-h l = (length l.marks ≡ 65) × Marked (λ k. get_or l.pointers k 0) l.h l.marks
