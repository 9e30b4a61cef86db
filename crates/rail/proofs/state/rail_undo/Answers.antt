-- The call's outcome on the places lent, its reply packed.
use Rattle.std.proofs.Common.{sym}
use Rattle.rail.proofs.States.{exported}
use Rattle.rail.proofs.state.rail_undo.Goals as goal

pub returns : goal.returns
returns c = exported (c.undo-r.ensures _ (sym c.places-lent.ensures)) c.packed.ensures
