use Rattle.std.proofs.Common.{◌-◌}
use Rattle.present.proofs.TouchedStays.{TouchInv}
use Rattle.present_count.proofs.is_touched.Given as goal

-- Whether one of the orders left is for the window is whether one of all is.
abbrev pub invariant-loop-i : goal.invariant-loop-i
invariant-loop-i l = TouchInv l.w.id l.journal l.count l.p l.i

abbrev pub decreases-loop-i : goal.decreases-loop-i
decreases-loop-i l = l.count - l.i
