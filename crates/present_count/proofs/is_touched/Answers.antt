-- Whether one of the orders left is for the window is whether one of all is.
use Rattle.std.proofs.Common.{◌-◌, arith}
use Rattle.present.proofs.TouchedStays.{touch_start, touch_cut, touch_found, touch_next, touch_end}
use Rattle.present_count.proofs.is_touched.Goals as goal

pub loop-i-init : goal.loop-i-init
loop-i-init c = let a = c.args in touch_start a.w.id a.journal.now a.count

pub overflow_add-p : goal.overflow_add-p
overflow_add-p c = omega (arith, c.loop-i.invariant.high)

pub overflow_sub-p : goal.overflow_sub-p
overflow_sub-p c = c.loop-i.invariant.high

pub returns-then-p-size : goal.returns-then-p-size
returns-then-p-size c =
    let a = c.args in
    touch_cut a.w.id a.journal.now c.loop-i.invariant c.loop-i-test.true c.read_u16-size.ensures c.if-p-size.true

pub overflow_add-end : goal.overflow_add-end
overflow_add-end c = omega (arith, c.loop-i.invariant.high, c.if-p-size.false)

pub slice_bounds-is_for-end : goal.slice_bounds-is_for-end
slice_bounds-is_for-end c = omega (arith, c.loop-i.invariant.high, c.if-p-size.false, c.requires)

pub returns-then-is_for : goal.returns-then-is_for
returns-then-is_for c =
    let a = c.args in
    touch_found a.w.id a.journal.now c.loop-i.invariant c.loop-i-test.true c.read_u16-size.ensures c.if-p-size.false c.is_for.ensures c.if-is_for.true

pub loop-i-smaller : goal.loop-i-smaller
loop-i-smaller c = omega (arith, c.loop-i-test.true)

pub loop-i-preserved : goal.loop-i-preserved
loop-i-preserved c =
    let a = c.args in
    touch_next a.w.id a.journal.now c.loop-i.invariant c.loop-i-test.true c.read_u16-size.ensures c.if-p-size.false c.is_for.ensures c.if-is_for.false

pub returns : goal.returns
returns c = let a = c.args in touch_end a.w.id a.journal.now c.loop-i.invariant c.loop-i-test.false
