-- The id is read, all else is fixed.
use Rattle.index_step.proofs.bare_order.Goals as goal

pub returns : goal.returns
returns c = rw c.read_u32-id.ensures
