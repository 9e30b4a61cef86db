-- The number read.
use Rattle.ids.proofs.TypedTells.{window_is}
use Rattle.ids.proofs.typed.window.Goals as goal

pub returns : goal.returns
returns c = window_is c.args.bytes.now c.args.i c.read_u32-id.ensures
