use Rattle.std.proofs.Common.{◌≡◌, ◌≤◌}
use Rattle.places.specs.Memory.{pointer_at, count_at}
use Rattle.places_held.proofs.users.Given as goal

abbrev pub invariant-loop-h : goal.invariant-loop-h
invariant-loop-h l = (l.n ≤ l.h) × (l.n ≡ count_at l.h (pointer_at l.bytes) l.v)
