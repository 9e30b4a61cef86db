-- Every slot before i passed.
use Rattle.std.proofs.Common.{◌-◌, ◌∙◌, refl, rules, sym}
use Rattle.slots.proofs.Ways.{ok_stop, ok_next, ok_done}
use Rattle.rows.specs.Rows.{rows_from}
use Rattle.table.specs.Memory.{record_ok}
use Rattle.table_sound.proofs.windows_ok.Goals as goal

pub loop-i-init : goal.loop-i-init
loop-i-init c = (search rules, refl)

pub returns-then-not-window_record_ok : goal.returns-then-not-window_record_ok
returns-then-not-window_record_ok c =
    let a = c.args in
    sym (c.loop-i.invariant.1 ∙ ok_stop (record_ok (rows_from 1 22) a.index.now a.bodies.now) 32 c.loop-i.i c.loop-i-test.true c.window_record_ok.ensures (c.if-not-window_record_ok.true))

pub loop-i-preserved : goal.loop-i-preserved
loop-i-preserved c =
    let a = c.args in
    (search rules, c.loop-i.invariant.1 ∙ ok_next (record_ok (rows_from 1 22) a.index.now a.bodies.now) 32 c.loop-i.i c.loop-i-test.true c.window_record_ok.ensures (c.if-not-window_record_ok.false))

pub returns : goal.returns
returns c =
    let a = c.args in
    sym (c.loop-i.invariant.1 ∙ ok_done (record_ok (rows_from 1 22) a.index.now a.bodies.now) 32 c.loop-i.i c.loop-i-test.false)
