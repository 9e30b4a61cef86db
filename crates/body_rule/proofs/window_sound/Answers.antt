-- As `sound`, of a window's rows and marks of 0.
use Rattle.body_rule.proofs.Ways.{marks_over, marks_within}
use Rattle.rows.specs.Rows.{rows_from}
use Rattle.body_rule.proofs.window_sound.Goals as goal

pub returns-then-not-marks_ok : goal.returns-then-not-marks_ok
returns-then-not-marks_ok c = marks_over (rows_from 1 22) 0 0 c.args.slot.now c.marks_ok.ensures (c.if-not-marks_ok.true)

pub returns : goal.returns
returns c =
    marks_within (rows_from 1 22) 0 0 c.args.slot.now c.marks_ok.ensures (c.if-not-marks_ok.false) c.window_ok.ensures
