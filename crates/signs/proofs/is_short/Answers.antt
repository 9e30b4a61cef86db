-- The numbers below 8000 and from FFFF8000 on stand for the values that 2 bytes have a number for.
use Rattle.signs.proofs.Bits.{short_is}
use Rattle.signs.proofs.is_short.Goals as goal

pub returns : goal.returns
returns c = short_is c.args.n c.ranges.n
