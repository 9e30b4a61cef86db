-- Every slot before i passed.
use Rattle.std.proofs.Common.{◌+◌, ◌-◌, ◌∙◌, rules, sym}
use Rattle.slots.proofs.Ways.{ok_start, ok_stop, ok_next, ok_done}
use Rattle.rows.specs.Rows.{rows_from}
use Rattle.table.specs.Memory.{record_ok}
use Rattle.table_sound.proofs.records_ok.Goals as goal

pub loop-i-init : goal.loop-i-init
loop-i-init c =
    let a = c.args in
    (search rules, search rules, ok_start (record_ok (rows_from a.low a.high) a.index.now a.bodies.now) a.first a.count)

pub returns-then-not-record_ok : goal.returns-then-not-record_ok
returns-then-not-record_ok c =
    let a = c.args in
    sym (c.loop-i.invariant.2 ∙ ok_stop (record_ok (rows_from a.low a.high) a.index.now a.bodies.now) (a.first + a.count) c.loop-i.i c.loop-i-test.true c.record_ok.ensures (c.if-not-record_ok.true))

pub loop-i-preserved : goal.loop-i-preserved
loop-i-preserved c =
    let a = c.args in
    (search rules, search rules, c.loop-i.invariant.2 ∙ ok_next (record_ok (rows_from a.low a.high) a.index.now a.bodies.now) (a.first + a.count) c.loop-i.i c.loop-i-test.true c.record_ok.ensures (c.if-not-record_ok.false))

pub returns : goal.returns
returns c =
    let a = c.args in
    sym (c.loop-i.invariant.2 ∙ ok_done (record_ok (rows_from a.low a.high) a.index.now a.bodies.now) (a.first + a.count) c.loop-i.i c.loop-i-test.false)
