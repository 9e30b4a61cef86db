-- The call's outcome on the places lent, its reply packed.
use Rattle.std.proofs.Common.{sym}
use Rattle.rail.proofs.States.{reset_exported}
use Rattle.rail.proofs.state.rail_reset.Goals as goal

pub returns : goal.returns
returns c = reset_exported c.places-lent.ensures (c.reset-r.ensures _ (sym c.places-lent.ensures)) c.packed.ensures
