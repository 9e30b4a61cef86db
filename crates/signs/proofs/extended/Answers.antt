-- The lower half stands as it is; to the upper FFFF0000 is added.
use Rattle.signs.proofs.Bits.{extend_low, extend_high}
use Rattle.signs.proofs.extended.Goals as goal

pub returns-then-n-lt32768 : goal.returns-then-n-lt32768
returns-then-n-lt32768 c = extend_low c.args.n c.ranges.n c.if-n-lt32768.true

pub returns : goal.returns
returns c = extend_high c.args.n c.ranges.n c.if-n-lt32768.false
