-- From turn to turn the rectangles passed are laid.
use Rattle.std.proofs.Common.{◌-◌, ◌/◌, ◌≡◌, ap, arith, length, rules}
use Rattle.print.specs.Texts.{laid_list_text, laid_rectangles_text}
use Rattle.print.proofs.Laid.{nothing, as_text}
use Rattle.print.proofs.Texts.{rectangle_next}
use Rattle.print.proofs.rectangles.Goals as goal

pub loop-i-init : goal.loop-i-init
unfolding laid_rectangles_text laid_list_text
loop-i-init c = (nothing c.args.out.now c.args.at, search rules, search rules)

pub loop-i-preserved : goal.loop-i-preserved
unfolding laid_rectangles_text laid_list_text
loop-i-preserved c =
    let a = c.args in (rectangle_next a.ns.now c.loop-i.i c.loop-i.invariant.0 c.parting-n.ensures c.rectangle-n.ensures, search rules, search rules)

pub returns : goal.returns
unfolding laid_rectangles_text laid_list_text
returns c =
    let a = c.args in let e : c.loop-i.i ≡ length a.ns.now / 4 = omega arith in as_text (ap (laid_rectangles_text a.ns.now) e) c.loop-i.invariant.0
