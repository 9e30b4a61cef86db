use Rattle.std.proofs.Common.{◌+◌, ◌-◌, ◌≡◌, ◌≤◌}
use Rattle.places.specs.Counts.{first_from}
use Rattle.slots.specs.Slots.{is_at}
use Rattle.slots.proofs.search.Given as goal

abbrev pub invariant-loop-i : goal.invariant-loop-i
invariant-loop-i l = (l.first ≤ l.i) × (first_from l.count l.first (is_at l.index l.a l.b) ≡ first_from (l.first + l.count - l.i) l.i (is_at l.index l.a l.b))
