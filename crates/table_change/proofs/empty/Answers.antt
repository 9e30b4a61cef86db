-- The index is emptied, and the desktop's slot is lent, cleared and given back.
use Rattle.std.proofs.Common.{arith}
use Rattle.table.proofs.Ways.{part_same}
use Rattle.table.proofs.Delivered.{emptied_done}
use Rattle.table_change.proofs.empty.Goals as goal

pub shape_of-index : goal.shape_of-index
shape_of-index c = c.empty.auto.index

pub shape_of-bodies : goal.shape_of-bodies
shape_of-bodies c =
    part_same c.args.bodies.now c.prepare.new.slot 59200 60116 (omega arith) (omega (arith, c.requires.1)) c.prepare.auto.slot

pub returns : goal.returns
returns c =
    emptied_done c.args.index.now c.args.bodies.now c.args.lent c.requires.0 c.requires.1 c.requires.2 c.fixed-n.ensures c.empty.ensures c.prepare.ensures c.prepare.auto.slot
