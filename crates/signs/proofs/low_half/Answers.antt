-- The remainder by 65,536 stands for the same value.
use Rattle.signs.proofs.Bits.{low_half}
use Rattle.signs.proofs.low_half.Goals as goal

pub returns : goal.returns
returns c = low_half c.args.n c.ranges.n c.requires
