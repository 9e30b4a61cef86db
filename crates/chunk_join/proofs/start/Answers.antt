-- The start of the memory for a first chunk, else the end of what came.
use Rattle.chunk.proofs.Tests.{start_first, start_later}
use Rattle.chunk_join.proofs.start.Goals as goal

pub returns-then-is_first : goal.returns-then-is_first
returns-then-is_first c = start_first c.args.memory.now c.args.chunk.now _ c.read_u32.ensures _ c.is_first.ensures c.if-is_first.true

pub returns : goal.returns
returns c =
    start_later c.args.memory.now c.args.chunk.now _ c.read_u32.ensures _ _ c.is_first.ensures c.if-is_first.false c.read_u32-2.ensures
