use Rattle.std.proofs.Common.{◌≡◌}
use Rattle.area.specs.Cutting.{area_by}
use Rattle.area.proofs.area.Given as goal

abbrev pub invariant-loop-i : goal.invariant-loop-i
invariant-loop-i l = l.sum ≡ area_by l.s l.i
