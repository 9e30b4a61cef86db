-- From turn to turn the records passed are laid.
use Rattle.std.proofs.Common.{◌-◌, ◌∙◌, ◌≡◌, ap, arith, rules}
use Rattle.print.specs.Texts.{laid_list_text}
use Rattle.print.proofs.Laid.{nothing, as_text}
use Rattle.print.proofs.Texts.{list_next}
use Rattle.list_text.specs.Lists.{entries_text}
use Rattle.list_text.proofs.entries.Goals as goal

pub loop-i-init : goal.loop-i-init
unfolding entries_text laid_list_text
loop-i-init c = (nothing c.args.out.now c.args.at, search rules, search rules)

pub loop-i-preserved : goal.loop-i-preserved
unfolding entries_text laid_list_text
loop-i-preserved c =
    (list_next _ _ c.loop-i.i c.loop-i.invariant.0 c.parting-n.ensures c.entry-n.ensures, search rules, search rules)

pub returns : goal.returns
unfolding entries_text laid_list_text
returns c =
    let e : c.loop-i.i ≡ c.laid-k.result = omega arith in as_text (ap (entries_text c.args.icons c.args.bytes.now) (e ∙ c.laid-k.ensures)) c.loop-i.invariant.0
