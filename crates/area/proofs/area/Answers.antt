-- The sum is the area of the first i rectangles.
use Rattle.std.proofs.Common.{◌∙◌, ◌≡◌, ap, arith, sym}
use Rattle.area.specs.Cutting.{area_by}
use Rattle.area.proofs.Cutting.{area_none, area_most_lem}
use Rattle.area.proofs.Steps.{grown, whole}
use Rattle.area.proofs.area.Goals as goal

pub loop-i-init : goal.loop-i-init
loop-i-init c = sym (area_none c.args.s.now)

pub overflow_add-sum : goal.overflow_add-sum
overflow_add-sum c = omega (arith, area_most_lem c.args.s.now c.loop-i.i)

pub loop-i-preserved : goal.loop-i-preserved
loop-i-preserved c = grown c.args.s.now c.loop-i.i c.rect_at.ensures c.loop-i.invariant c.piece-sum.ensures.0

pub returns : goal.returns
returns c =
    let s = c.args.s.now in
    let e : c.loop-i.i ≡ c.listed-i-end.result = omega arith in
    whole s c.listed-i-end.ensures.0 (c.loop-i.invariant ∙ ap (area_by s) e)
