-- The lookup's outcome on the target of these numbers, its reply packed.
use Rattle.rail.proofs.States.{exported}
use Rattle.rail.proofs.state.rail_notification.Goals as goal

pub returns : goal.returns
returns c = exported c.look-r.ensures c.packed.ensures
