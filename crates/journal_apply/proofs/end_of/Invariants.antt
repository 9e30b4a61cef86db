use Rattle.std.proofs.Common.{◌-◌}
use Rattle.journal.proofs.LoopInvariants.{EndInv}
use Rattle.journal_apply.proofs.end_of.Given as goal

-- What is left of the orders ends where all of them end.
abbrev pub invariant-loop-i : goal.invariant-loop-i
invariant-loop-i l = EndInv l.journal l.count l.p l.i

abbrev pub decreases-loop-i : goal.decreases-loop-i
decreases-loop-i l = l.count - l.i
