-- The parts end within the order, or one of them is cut.
use Rattle.order.proofs.Pictures.{icon_ends, icon_short}
use Rattle.order_icon.proofs.icon_fit.Goals as goal

pub returns-then-q-s : goal.returns-then-q-s
returns-then-q-s c =
    let a = c.args in icon_ends a.s.now a.at a.bad c.icon_parts-p.ensures c.if-q-s.true c.icon_bad-more.ensures c.first_bad-b.ensures

pub returns : goal.returns
returns c = let a = c.args in icon_short a.s.now a.at a.bad c.icon_parts-p.ensures c.if-q-s.false c.icon_cut-c.ensures
