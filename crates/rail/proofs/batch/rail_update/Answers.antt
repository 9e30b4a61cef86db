-- The update's outcome on the places lent, its report packed.
use Rattle.std.proofs.Common.{sym}
use Rattle.rail.proofs.Updates.{update_exported}
use Rattle.rail.proofs.batch.rail_update.Goals as goal

pub returns : goal.returns
returns c = update_exported (c.update-r.ensures _ (sym c.places-lent.ensures)) c.packed.ensures
