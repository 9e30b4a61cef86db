-- `number`: two bytes and the definition of a number of 2 bytes. Assumes nothing.
use Rattle.std.proofs.Common.{arith}
use Rattle.wire.proofs.Numbers.{num2_is}
use Rattle.area.proofs.number.Goals as goal

pub returns : goal.returns
returns c = omega (arith, num2_is c.args.s.now c.args.at, c.wide-2.ensures, c.wide.ensures)
