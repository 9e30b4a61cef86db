-- `keep`: after i turns the pixels of the first i slots are written, which changes no used mark; then the totals. Assumes nothing.
use Rattle.std.proofs.Common.{◌+◌, ◌-◌, arith, refl}
use Rattle.area.specs.Area.{one}
use Rattle.figure.specs.Figure.{shown_at, pixels_at}
use Rattle.figure.proofs.FigureSums.{counts, window_more, sum_more, sum_zero}
use Rattle.figure.proofs.KeptSteps.{none_kept, shown_kept, pixels_kept_lem, pixels_more, kept_long, all_kept}
use Rattle.figure.proofs.keep.Goals as goal

pub loop-i-init : goal.loop-i-init
loop-i-init c =
    let a = c.args in
    let index = a.index.now in
    let bodies = a.bodies.now in
    (omega arith, omega arith, sum_zero (λ k. one (shown_at index bodies k)), sum_zero (pixels_at index bodies), none_kept index bodies, refl)

pub overflow_add-windows : goal.overflow_add-windows
overflow_add-windows c = let h = counts c.is_shown-shown.result in omega arith

pub loop-i-preserved : goal.loop-i-preserved
loop-i-preserved c =
    let p = c.pixels_at-p.ensures in
    let s = c.is_shown-shown in
    let index = c.args.index.now in
    let bodies = c.args.bodies.now in
    let i = c.loop-i.i in
    let is = c.loop-i.invariant.4 in
    let long = c.requires.0 in
    let h = counts s.result in
    let more = pixels_more index bodies long i c.loop-i-test.true is p.0 c.write_u32.ensures in (
      omega arith,
      omega arith,
      window_more index bodies i c.loop-i.invariant.2 (shown_kept index bodies long i c.loop-i-test.true is s.ensures),
      sum_more i (pixels_at index bodies) c.loop-i.invariant.3 (pixels_kept_lem index bodies long i c.loop-i-test.true is p.0),
      more,
      kept_long index bodies long (i + 1) (omega arith) more,
    )

pub returns : goal.returns
returns c =
    all_kept c.args.index.now c.args.bodies.now (omega arith) c.loop-i.invariant.2 c.loop-i.invariant.3 c.loop-i.invariant.4 c.write.ensures
