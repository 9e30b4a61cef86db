-- From turn to turn the ids passed are laid.
use Rattle.std.proofs.Common.{◌-◌, ◌≡◌, ap, arith, rules}
use Rattle.print.specs.Texts.{laid_list_text}
use Rattle.print.proofs.Laid.{nothing, as_text}
use Rattle.print.proofs.Texts.{list_next}
use Rattle.field_text.specs.Fields.{ids_text}
use Rattle.field_text.proofs.fields.ids.Goals as goal

pub loop-i-init : goal.loop-i-init
unfolding ids_text laid_list_text
loop-i-init c = (nothing c.args.out.now c.args.at, search rules, search rules)

pub loop-i-preserved : goal.loop-i-preserved
unfolding ids_text laid_list_text
loop-i-preserved c =
    (list_next _ _ c.loop-i.i c.loop-i.invariant.0 c.parting-n.ensures c.decimal-n.ensures, search rules, search rules)

pub returns : goal.returns
unfolding ids_text laid_list_text
returns c = let e : c.loop-i.i ≡ c.args.k = omega arith in as_text (ap (ids_text c.args.list) e) c.loop-i.invariant.0
