-- Past the last there is none, else the part lies where the lengths before it end.
use Rattle.record.proofs.Handing.{part_none, part_cut, part_in}
use Rattle.record.proofs.part.Goals as goal

pub returns-then-count-i : goal.returns-then-count-i
returns-then-count-i c = part_none _ _ _ c.read_u16-count.ensures c.if-count-i.true

pub returns-then-record-end : goal.returns-then-record-end
returns-then-record-end c =
    part_cut _ _ _ c.read_u16-count.ensures _ _ c.if-count-i.false c.read_u32-offset.ensures c.read_u32.ensures c.if-record-end.true

pub returns : goal.returns
returns c =
    part_in _ _ _ c.read_u16-count.ensures _ _ c.if-count-i.false c.read_u32-offset.ensures c.read_u32.ensures c.if-record-end.false
