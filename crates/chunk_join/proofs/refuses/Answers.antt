-- Each kind of chunk by those of the definition's tests that can hold for it, each on the number that the definition reads.
use Rattle.chunk.proofs.Tests.{refuses_one, refuses_first, refuses_later}
use Rattle.chunk_join.proofs.refuses.Goals as goal

pub returns-then-is_last-is_compressed : goal.returns-then-is_last-is_compressed
returns-then-is_last-is_compressed c =
    refuses_one c.args.memory.now c.args.chunk.now _ c.read_u32-flags.ensures
    _ _ _ _ _ c.read_u32-total.ensures c.is_first.ensures c.is_last.ensures
    c.is_compressed.ensures c.is_outside.ensures c.if-is_first.true c.if-is_last-is_compressed.true

pub returns-then-is_first : goal.returns-then-is_first
returns-then-is_first c =
    refuses_first c.args.memory.now c.args.chunk.now _ c.read_u32-flags.ensures
    _ _ _ _ _ c.read_u32-total.ensures c.is_first.ensures c.is_last.ensures
    c.is_compressed.ensures c.is_outside-then-is_first.ensures c.if-is_first.true c.if-is_last-is_compressed.false
    _ c.is_compressed-then-is_first.ensures

pub returns : goal.returns
returns c =
    refuses_later c.args.memory.now c.args.chunk.now _ c.read_u32-flags.ensures
    _ _ _ _ _ c.read_u32-total.ensures c.is_first.ensures c.is_last-2.ensures
    c.is_compressed-2.ensures c.is_outside-2.ensures c.if-is_first.false
    _ _ c.read_u32-begun.ensures c.read_u32.ensures
