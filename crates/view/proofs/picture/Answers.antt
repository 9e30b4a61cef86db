-- By whether the bits per pixel have a color table: its length then stands before the others.
use Rattle.std.proofs.Common.{◌∙◌, sym}
use Rattle.view.proofs.ViewsRecords.{tabled_is, untabled_is}
use Rattle.view.proofs.picture.Goals as goal

pub returns-then-has_table : goal.returns-then-has_table
returns-then-has_table c =
    tabled_is c.args.bytes.now c.read_u8-bits.ensures c.read_u16-width.ensures c.read_u16-height.ensures
    c.read_u16-first.ensures c.read_u16-second.ensures (sym c.has_table.ensures ∙ c.if-has_table.true)
    c.read_u16-third.ensures c.put_bytes.ensures

pub returns : goal.returns
returns c =
    untabled_is c.args.bytes.now c.read_u8-bits.ensures c.read_u16-width.ensures c.read_u16-height.ensures
    c.read_u16-first.ensures c.read_u16-second.ensures (sym c.has_table.ensures ∙ c.if-has_table.false) c.put_bytes-2.ensures
