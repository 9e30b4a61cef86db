-- The icons' pointers, then the slots.
use Rattle.index.proofs.Ways.{cleared}
use Rattle.index_change.proofs.clear.Goals as goal

pub returns : goal.returns
returns c = cleared c.args.index.now c.release_records.ensures c.clear.ensures
