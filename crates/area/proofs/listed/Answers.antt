-- `listed`: the one test of the code is that of the definition. Assumes nothing.
use Rattle.std.proofs.Common.{arith}
use Rattle.area.proofs.Steps.{is_listed_lem, none_listed}
use Rattle.area.proofs.listed.Goals as goal

pub returns-then-n-s : goal.returns-then-n-s
returns-then-n-s c = is_listed_lem c.args.s.now c.read_u16-n.result c.read_u16-n.ensures c.if-n-s.true

pub returns : goal.returns
returns c = (none_listed c.args.s.now c.read_u16-n.result c.read_u16-n.ensures c.if-n-s.false, omega arith)
