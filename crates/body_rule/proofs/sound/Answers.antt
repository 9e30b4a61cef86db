-- The marks, and the fields.
use Rattle.body_rule.proofs.Ways.{marks_over, marks_within}
use Rattle.rows.specs.Rows.{rows_from}
use Rattle.body_rule.proofs.sound.Goals as goal

pub returns-then-not-marks_ok : goal.returns-then-not-marks_ok
returns-then-not-marks_ok c =
    let a = c.args in
    marks_over (rows_from a.low a.high) a.m a.n a.slot.now c.marks_ok.ensures (c.if-not-marks_ok.true)

pub returns : goal.returns
returns c =
    let a = c.args in
    marks_within (rows_from a.low a.high) a.m a.n a.slot.now c.marks_ok.ensures (c.if-not-marks_ok.false) c.fields_ok.ensures
