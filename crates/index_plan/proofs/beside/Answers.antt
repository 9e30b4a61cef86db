-- The number of the cell decides.
use Rattle.index.proofs.Ways.{beside_itself, beside_named}
use Rattle.index_plan.proofs.beside.Goals as goal

pub returns-then-cell-ge-CELLS : goal.returns-then-cell-ge-CELLS
returns-then-cell-ge-CELLS c = beside_itself c.args.cell c.args.pointer c.requires c.if-cell-ge-CELLS.true

pub returns-else-cell-ge-CELLS : goal.returns-else-cell-ge-CELLS
returns-else-cell-ge-CELLS c = beside_named c.args.cell c.args.pointer c.requires c.if-cell-ge-CELLS.false
