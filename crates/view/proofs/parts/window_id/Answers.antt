-- The number read is the id.
use Rattle.std.proofs.Common.{ap}
use Rattle.view.specs.Views.{window_id}
use Rattle.view.proofs.parts.window_id.Goals as goal

pub returns : goal.returns
returns c = ap window_id c.read_u32-id.ensures
