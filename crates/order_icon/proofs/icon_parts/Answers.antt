-- With a color table its length stands between the two others, without one there are two.
use Rattle.order.proofs.Pictures.{parts_table, parts_plain}
use Rattle.order_icon.proofs.icon_parts.Goals as goal

pub returns-then-has_table : goal.returns-then-has_table
returns-then-has_table c =
    let a = c.args in parts_table a.s.now a.at c.read_u8-bits.ensures c.has_table.ensures c.if-has_table.true c.read_u16-a.ensures c.read_u16-b.ensures c.read_u16-c.ensures c.parts.ensures

pub returns : goal.returns
returns c =
    let a = c.args in parts_plain a.s.now a.at c.read_u8-bits.ensures c.has_table.ensures c.if-has_table.false c.read_u16-a.ensures c.read_u16-b.ensures c.parts-2.ensures
