-- From turn to turn the numbers passed are laid.
use Rattle.std.proofs.Common.{ℕ, ◌-◌, ◌∙◌, ◌≡◌, ap, arith, get_or, length, rules, sym, zero-add}
use Rattle.print.specs.Texts.{laid_list_text, numbers_text}
use Rattle.print.proofs.Laid.{nothing, as_text}
use Rattle.print.proofs.Texts.{number_next}
use Rattle.print.proofs.numbers.Goals as goal

pub loop-i-init : goal.loop-i-init
unfolding numbers_text laid_list_text
loop-i-init c = (nothing c.args.out.now c.args.at, search rules, search rules)

pub loop-i-preserved : goal.loop-i-preserved
unfolding numbers_text laid_list_text
loop-i-preserved c =
    let a = c.args in (number_next a.part a.ns.now 0 c.loop-i.i (c.wide4.ensures ∙ ap (λ (k : ℕ). get_or a.ns.now k 0) (sym (zero-add c.loop-i.i))) c.loop-i.invariant.0 c.entry-n.ensures, search rules, search rules)

pub returns : goal.returns
unfolding numbers_text laid_list_text
returns c =
    let a = c.args in let e : c.loop-i.i ≡ length a.ns.now = omega arith in as_text (ap (numbers_text a.part a.ns.now 0) e) c.loop-i.invariant.0
