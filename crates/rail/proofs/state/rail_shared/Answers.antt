-- The lookup's outcome on the two holders of these numbers, its reply packed.
use Rattle.rail.proofs.States.{shared_exported}
use Rattle.rail.proofs.state.rail_shared.Goals as goal

pub returns : goal.returns
returns c = shared_exported c.holder_of-g.ensures c.holder_of-k.ensures c.look-r.ensures c.packed.ensures
