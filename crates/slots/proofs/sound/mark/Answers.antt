-- The number is the definition's, and a remainder of 256.
use Rattle.slots.proofs.Once.{mark_is}
use Rattle.slots.proofs.sound.mark.Goals as goal

pub returns : goal.returns
returns c = mark_is c.args.a c.args.b
