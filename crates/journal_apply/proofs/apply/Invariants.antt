use Rattle.std.proofs.Common.{◌-◌}
use Rattle.store.specs.Store.{five}
use Rattle.journal.proofs.LoopInvariants.{ApplyInv}
use Rattle.journal_apply.proofs.apply.Given as goal

-- The orders left make of the table so far what all make of the first one.
abbrev pub invariant-loop-i : goal.invariant-loop-i
invariant-loop-i l = ApplyInv l.initial.index l.initial.bodies (five l.initial.a l.initial.b l.initial.c l.initial.d l.initial.e) l.journal l.count l.index l.bodies (five l.a l.b l.c l.d l.e) l.p l.i

abbrev pub decreases-loop-i : goal.decreases-loop-i
decreases-loop-i l = l.count - l.i
