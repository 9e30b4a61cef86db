-- `piece`: a box without rows or columns has no points. Assumes nothing.
use Rattle.std.proofs.Common.{arith}
use Rattle.area.proofs.Steps.{empty_box, has_columns}
use Rattle.area.proofs.piece.Goals as goal

pub rows-requires : goal.rows-requires
rows-requires c = (omega arith, has_columns c.args.q c.if-q.true)

pub returns : goal.returns
returns c = let a = c.args in empty_box a.s.now a.n a.q c.if-q.false
