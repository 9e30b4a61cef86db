-- A slot is used where its first byte is 1.
use Rattle.std.proofs.Common.{refl}
use Rattle.table.proofs.Ways.{record_free, record_held}
use Rattle.rows.specs.Rows.{rows_from}
use Rattle.table_sound.proofs.record_ok.Goals as goal

pub returns-then-index-i-ne1 : goal.returns-then-index-i-ne1
returns-then-index-i-ne1 c =
    let a = c.args in
    record_free (rows_from a.low a.high) a.index.now a.bodies.now a.i refl c.if-index-i-ne1.true

pub returns : goal.returns
returns c =
    let a = c.args in
    record_held (rows_from a.low a.high) a.index.now a.bodies.now a.i refl c.if-index-i-ne1.false c.body_ok.ensures
