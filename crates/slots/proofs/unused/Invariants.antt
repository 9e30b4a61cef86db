use Rattle.std.proofs.Common.{◌+◌, ◌-◌, ◌≡◌}
use Rattle.places.specs.Counts.{first_from}
use Rattle.slots.specs.Slots.{is_free}
use Rattle.slots.proofs.unused.Given as goal

abbrev pub invariant-loop-i : goal.invariant-loop-i
invariant-loop-i l = first_from l.count l.first (is_free l.index) ≡ first_from (l.first + l.count - l.i) l.i (is_free l.index)
