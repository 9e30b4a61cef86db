-- Past the end both numbers are 0; else they are read where the definition reads them.
use Rattle.std.proofs.Common.{rules}
use Rattle.index.proofs.Ways.{cell_past, cell_of}
use Rattle.index_plan.proofs.cell.Goals as goal

pub returns-then-s-at : goal.returns-then-s-at
returns-then-s-at c =
    let a = c.args in
    cell_past a.s.now a.icon c.if-s-at.true

pub returns : goal.returns
returns c =
    let a = c.args in
    (cell_of a.s.now a.icon c.read_u8-cache.ensures c.read_u16-entry.ensures, search rules)
