-- The call's outcome on the places lent, its reply packed.
use Rattle.std.proofs.Common.{sym}
use Rattle.rail.proofs.States.{exported}
use Rattle.rail.proofs.records.rail_record_write.Goals as goal

pub returns : goal.returns
returns c = exported (c.write-r.ensures _ (sym c.places-lent.ensures)) c.packed.ensures
