use Rattle.std.proofs.Common.{◌-◌}
use Rattle.journal.proofs.LoopInvariants.{ReplayInv}
use Rattle.journal_replay.proofs.replay.Given as goal

-- The replay of the orders left, from the memories so far, is the replay of all of them from the first memories.
abbrev pub invariant-loop-i : goal.invariant-loop-i
invariant-loop-i l = ReplayInv l.want l.initial.d l.initial.m l.journal l.count l.d l.m l.p l.i

abbrev pub decreases-loop-i : goal.decreases-loop-i
decreases-loop-i l = l.count - l.i
