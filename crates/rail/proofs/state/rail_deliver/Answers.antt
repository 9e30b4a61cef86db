-- The call's outcome on the places lent, its reply packed.
use Rattle.std.proofs.Common.{sym}
use Rattle.rail.proofs.States.{exported}
use Rattle.rail.proofs.state.rail_deliver.Goals as goal

pub returns : goal.returns
returns c = exported (c.deliver-r.ensures _ (sym c.places-lent.ensures)) c.packed.ensures
