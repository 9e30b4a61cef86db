-- Short memory fails at once; of longer memory the two numbers read are those of the rule.
use Rattle.chunk.proofs.Tests.{unfit_short, unfit_over, fit_is}
use Rattle.chunk_join.proofs.is_fit.Goals as goal

pub returns-then-memory-lt-MEMORY : goal.returns-then-memory-lt-MEMORY
returns-then-memory-lt-MEMORY c = unfit_short c.args.memory.now c.if-memory-lt-MEMORY.true

pub returns-then-total-gt-MOST : goal.returns-then-total-gt-MOST
returns-then-total-gt-MOST c = unfit_over c.args.memory.now c.if-memory-lt-MEMORY.false _ c.read_u32-total.ensures c.if-total-gt-MOST.true

pub returns : goal.returns
returns c =
    fit_is c.args.memory.now c.if-memory-lt-MEMORY.false _ c.read_u32-total.ensures c.if-total-gt-MOST.false _ c.read_u32.ensures
