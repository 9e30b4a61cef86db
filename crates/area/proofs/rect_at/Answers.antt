-- `rect_at`: the four numbers are those of the definition, one by one. Assumes nothing.
use Rattle.area.proofs.Steps.{is_rect}
use Rattle.area.proofs.rect_at.Goals as goal

pub returns : goal.returns
returns c =
    let a = c.args in
    is_rect a.s.now a.i c.number-left.ensures c.number-top.ensures c.number-right.ensures c.number-bottom.ensures
