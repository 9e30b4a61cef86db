-- Each way out is one line of the definition; a cell below 12 has its pointer behind the number of places.
use Rattle.index.proofs.Ways.{cached_past, cached_empty, lacks_none}
use Rattle.index_plan.proofs.lacks_picture.Goals as goal

pub returns-then-flags-eq0 : goal.returns-then-flags-eq0
returns-then-flags-eq0 c =
    let a = c.args in
    lacks_none a.index.now a.flags a.cell c.if-flags-eq0.true

pub returns-then-cell-ge-CELLS : goal.returns-then-cell-ge-CELLS
returns-then-cell-ge-CELLS c =
    let a = c.args in
    cached_past a.index.now a.flags a.cell c.if-flags-eq0.false c.if-cell-ge-CELLS.true

pub returns : goal.returns
returns c =
    let a = c.args in
    cached_empty a.index.now a.flags a.cell c.if-flags-eq0.false c.if-cell-ge-CELLS.false
