-- The lookup's outcome, its reply packed.
use Rattle.rail.proofs.States.{exported}
use Rattle.rail.proofs.state.rail_windows.Goals as goal

pub returns : goal.returns
returns c = exported c.look-r.ensures c.packed.ensures
