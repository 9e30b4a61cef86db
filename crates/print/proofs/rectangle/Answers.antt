-- From turn to turn the numbers passed are laid.
use Rattle.std.proofs.Common.{◌-◌, ◌≡◌, ap, arith, rules}
use Rattle.print.specs.Texts.{laid_list_text, numbers_text}
use Rattle.print.proofs.Laid.{nothing, as_text}
use Rattle.print.proofs.Texts.{number_next}
use Rattle.print.proofs.rectangle.Goals as goal

pub loop-j-init : goal.loop-j-init
unfolding numbers_text laid_list_text
loop-j-init c = (nothing c.args.out.now c.args.at, search rules, search rules)

pub loop-j-preserved : goal.loop-j-preserved
unfolding numbers_text laid_list_text
loop-j-preserved c =
    let a = c.args in (number_next 44 a.ns.now a.from c.loop-j.j c.wide2.ensures c.loop-j.invariant.0 c.entry-n.ensures, search rules, search rules)

pub returns : goal.returns
unfolding numbers_text laid_list_text
returns c =
    let a = c.args in let e : c.loop-j.j ≡ 4 = omega arith in as_text (ap (numbers_text 44 a.ns.now a.from) e) c.loop-j.invariant.0
