-- The three numbers of a slot are compared, the window id first.
use Rattle.slots.proofs.Ways.{ids_other, ids_free, ids_second}
use Rattle.slots.proofs.has_ids.Goals as goal

pub returns-then-read_u32-a : goal.returns-then-read_u32-a
returns-then-read_u32-a c =
    let a = c.args in
    ids_other a.slot.now a.a a.b c.read_u32.ensures c.if-read_u32-a.true

pub returns-then-read_u8-ne1 : goal.returns-then-read_u8-ne1
returns-then-read_u8-ne1 c =
    let a = c.args in
    ids_free a.slot.now a.a a.b c.read_u32.ensures c.if-read_u32-a.false c.read_u8.ensures c.if-read_u8-ne1.true

pub returns : goal.returns
returns c =
    let a = c.args in
    ids_second a.slot.now a.a a.b c.read_u32.ensures c.if-read_u32-a.false c.read_u8.ensures c.if-read_u8-ne1.false c.read_u32-2.ensures
