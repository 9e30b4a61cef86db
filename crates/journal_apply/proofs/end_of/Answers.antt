-- What is left of the orders ends where all of them end.
use Rattle.std.proofs.Common.{◌-◌, arith}
use Rattle.journal.proofs.LoopInvariants.{end_start, end_room, end_next, end_end}
use Rattle.journal_apply.proofs.end_of.Goals as goal

pub loop-i-init : goal.loop-i-init
loop-i-init c = end_start c.args.journal.now c.args.count c.requires.1

pub overflow_add-p : goal.overflow_add-p
overflow_add-p c = omega (arith, c.loop-i.invariant.high)

pub overflow_add-p-in-loop-i : goal.overflow_add-p-in-loop-i
overflow_add-p-in-loop-i c = omega (arith, end_room c.args.journal.now c.loop-i.invariant c.loop-i-test.true c.read_u16.ensures)

pub loop-i-smaller : goal.loop-i-smaller
loop-i-smaller c = omega (arith, c.loop-i-test.true)

pub loop-i-preserved : goal.loop-i-preserved
loop-i-preserved c = end_next c.args.journal.now c.loop-i.invariant c.loop-i-test.true c.read_u16.ensures

pub returns : goal.returns
returns c = end_end c.args.journal.now c.loop-i.invariant c.loop-i-test.false
