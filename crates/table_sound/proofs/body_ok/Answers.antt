-- The slot's own bytes are lent and tested.
use Rattle.std.proofs.Common.{◌-◌, ◌≤◌}
use Rattle.table.proofs.Ways.{part_in_order, part_is, body_lent}
use Rattle.rows.specs.Rows.{rows_from}
use Rattle.table_sound.proofs.body_ok.Goals as goal

pub slice_bounds-sound-count : goal.slice_bounds-sound-count
slice_bounds-sound-count c =
    let ordered : c.start-base.result ≤ c.start-end.result = (let a = c.args in
    part_in_order a.bodies.now a.i c.start-base.ensures.0 c.start-end.ensures.0) in
    ordered

pub slice_bounds-sound-start : goal.slice_bounds-sound-start
slice_bounds-sound-start c =
    let ordered : c.start-base.result ≤ c.start-end.result = (let a = c.args in
    part_in_order a.bodies.now a.i c.start-base.ensures.0 c.start-end.ensures.0) in
    ordered

pub returns : goal.returns
returns c =
    let a = c.args in
    let base = c.start-base.result in
    body_lent (rows_from a.low a.high) a.m a.bodies.now a.i base (c.start-end.result - base) c.start-base.ensures.0
    (part_is a.bodies.now a.i c.start-base.ensures.0 c.start-end.ensures.0) c.sound.ensures
