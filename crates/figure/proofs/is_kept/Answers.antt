-- `is_kept`: both sums go from slot to slot while the pixels are the stored ones, then the totals are compared. Assumes nothing.
use Rattle.std.proofs.Common.{◌+◌, ◌-◌, ◌∙◌, arith, refl, sym, true}
use Rattle.wire.specs.Numbers.{Bytes}
use Rattle.area.specs.Area.{one}
use Rattle.figure.specs.Figure.{shown_at, pixels_at}
use Rattle.figure.specs.Kept.{pixels_place}
use Rattle.figure.proofs.FigureSums.{counts, window_more, sum_more, sum_zero}
use Rattle.figure.proofs.KeptSteps.{none_other, pixels_whole, stored_is, same_more, other, all_same}
use Rattle.figure.proofs.is_kept.Goals as goal

pub loop-i-init : goal.loop-i-init
loop-i-init c =
    let a = c.args in
    let index = a.index.now in
    let bodies = a.bodies.now in
    (omega arith, omega arith, sum_zero (λ k. one (shown_at index bodies k)), sum_zero (pixels_at index bodies), none_other index bodies)

pub returns-then-read_u32-p : goal.returns-then-read_u32-p
returns-then-read_u32-p c =
    let bytes : Bytes c.args.bodies.now = record { small = λ i. omega (arith, c.shared_slice_known-2-1.given i) } in
    let a = c.args in
    let i = c.loop-i.i in
    let p = c.pixels_at-p.ensures.0 in
    let whole = pixels_whole a.index.now a.bodies.now i (bytes) p in
    other a.index.now a.bodies.now i (stored_is a.index.now i (pixels_place i) (pixels_place i + 4 - pixels_place i) refl (omega arith) c.read_u32.ensures) p c.loop-i-test.true (λ z. c.if-read_u32-p.true (z ∙ sym whole))

pub overflow_add-windows : goal.overflow_add-windows
overflow_add-windows c = let h = counts c.is_shown-shown.result in omega arith

pub loop-i-preserved : goal.loop-i-preserved
loop-i-preserved c =
    let bytes : Bytes c.args.bodies.now = record { small = λ i. omega (arith, c.shared_slice_known-2-1.given i) } in
    let a = c.args in
    let index = a.index.now in
    let bodies = a.bodies.now in
    let i = c.loop-i.i in
    let shown = c.is_shown-shown in
    let p = c.pixels_at-p.ensures in
    let h = counts shown.result in
    let stored = stored_is index i (pixels_place i) (pixels_place i + 4 - pixels_place i) refl (omega arith) c.read_u32.ensures in
    (omega arith, omega arith, window_more index bodies i c.loop-i.invariant.2 shown.ensures, sum_more i (pixels_at index bodies) c.loop-i.invariant.3 p.0, same_more index bodies i stored p.0 c.loop-i.invariant.4 (c.if-read_u32-p.false ∙ pixels_whole index bodies i (bytes) p.0))

pub returns : goal.returns
returns c =
    let a = c.args in
    all_same a.index.now a.bodies.now (omega arith) c.loop-i.invariant.4 c.loop-i.invariant.2 c.loop-i.invariant.3 c.kept-f.ensures
