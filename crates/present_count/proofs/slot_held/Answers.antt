-- Nothing where its first byte is not 1; else the window of its id.
use Rattle.present.proofs.PresentFigure.{no_window, a_window}
use Rattle.present_count.proofs.slot_held.Goals as goal

pub returns-then-read_u8-ne1 : goal.returns-then-read_u8-ne1
returns-then-read_u8-ne1 c =
    let a = c.args in
    no_window a.x.now a.index.now a.bodies.now a.journal.now a.count a.i c.read_u8.ensures c.if-read_u8-ne1.true c.none.ensures

pub returns : goal.returns
returns c =
    let a = c.args in
    a_window a.x.now a.index.now a.bodies.now a.journal.now a.count a.i c.read_u8.ensures c.if-read_u8-ne1.false
    c.read_u32-id.ensures c.window_held.ensures
