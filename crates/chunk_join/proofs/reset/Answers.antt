-- Short memory stays; in longer memory both numbers become 0.
use Rattle.chunk.specs.Memory.{emptied}
use Rattle.chunk.proofs.Ways.{reset_short, reset_long}
use Rattle.chunk_join.proofs.reset.Goals as goal

pub returns-then-memory-lt-MEMORY : goal.returns-then-memory-lt-MEMORY
unfolding emptied
returns-then-memory-lt-MEMORY c = reset_short c.args.memory.now c.if-memory-lt-MEMORY.true

pub returns-else-memory-lt-MEMORY : goal.returns-else-memory-lt-MEMORY
unfolding emptied
returns-else-memory-lt-MEMORY c = reset_long c.args.memory.now c.if-memory-lt-MEMORY.false _ c.note.ensures
