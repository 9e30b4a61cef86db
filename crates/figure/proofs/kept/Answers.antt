-- `kept`: the windows, and the two halves of the pixels. Assumes nothing.
use Rattle.figure.proofs.KeptSteps.{kept_is}
use Rattle.figure.proofs.kept.Goals as goal

pub returns : goal.returns
returns c = kept_is c.args.index.now c.read_u32-windows.ensures c.read_u32-low.ensures c.read_u32-high.ensures
