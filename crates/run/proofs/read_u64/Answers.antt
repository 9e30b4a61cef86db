-- Two numbers of four bytes, the upper one times 2^32.
use Rattle.std.proofs.Common.{arith}
use Rattle.run.proofs.Calls.{num8_is}
use Rattle.run.proofs.read_u64.Goals as goal

pub returns : goal.returns
returns c = omega (arith, num8_is c.args.s.now, c.read_u32-high.ensures, c.read_u32-low.ensures)
