-- The tests are those of the definition.
use Rattle.std.proofs.Common.{ap}
use Rattle.wire.specs.Tests.{both}
use lib.Dec.{eqb}
use Rattle.slots.proofs.sound.is_free.Goals as goal

pub returns : goal.returns
returns c = ap (both (eqb c.args.used 0)) c.no_pointers-none.ensures
