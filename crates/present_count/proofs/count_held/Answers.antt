-- Both sums go from slot to slot.
use Rattle.std.proofs.Common.{◌-◌, arith}
use Rattle.figure.specs.Figure.{pixels_of}
use Rattle.figure.proofs.FigureSums.{sum_more, sum_zero}
use Rattle.present.specs.PresentFigure.{held_at, shown_one}
use Rattle.present.proofs.PresentFigure.{all_held}
use Rattle.present_count.proofs.count_held.Goals as goal

pub loop-i-init : goal.loop-i-init
loop-i-init c =
    let a = c.args in
    (omega arith, omega arith, omega arith, sum_zero (held_at shown_one a.x.now a.index.now a.bodies.now a.journal.now a.count), sum_zero (held_at pixels_of a.x.now a.index.now a.bodies.now a.journal.now a.count))

pub slot_held-f-requires : goal.slot_held-f-requires
slot_held-f-requires c = (omega arith, c.requires)

pub overflow_add-windows : goal.overflow_add-windows
overflow_add-windows c = let s = c.slot_held-f.ensures in omega (arith, c.loop-i.invariant.0, c.loop-i.invariant.1, s.few)

pub overflow_add-pixels : goal.overflow_add-pixels
overflow_add-pixels c = let s = c.slot_held-f.ensures in omega (arith, c.loop-i.invariant.0, c.loop-i.invariant.2, s.most)

pub loop-i-preserved : goal.loop-i-preserved
loop-i-preserved c =
    let a = c.args in
    let s = c.slot_held-f.ensures in (
      omega arith,
      omega (arith, c.loop-i.invariant.1, s.few),
      omega (arith, c.loop-i.invariant.2, s.most),
      sum_more c.loop-i.i (held_at shown_one a.x.now a.index.now a.bodies.now a.journal.now a.count) c.loop-i.invariant.3 s.windows,
      sum_more c.loop-i.i (held_at pixels_of a.x.now a.index.now a.bodies.now a.journal.now a.count) c.loop-i.invariant.4 s.pixels,
    )

pub returns : goal.returns
returns c =
    let a = c.args in
    all_held a.x.now a.index.now a.bodies.now a.journal.now a.count (omega (arith, c.loop-i-test.false, c.loop-i.invariant.0)) c.loop-i.invariant.3 c.loop-i.invariant.4
