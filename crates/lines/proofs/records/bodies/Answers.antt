-- From turn to turn the bodies passed are laid.
use Rattle.std.proofs.Common.{◌-◌, ◌≡◌, ap, arith, rules}
use Rattle.print.specs.Texts.{hex_text, laid_list_text}
use Rattle.print.proofs.Laid.{nothing, as_text}
use Rattle.print.proofs.Texts.{list_next}
use Rattle.lines.specs.Records.{bodies_text}
use Rattle.lines.proofs.records.bodies.Goals as goal

pub loop-i-init : goal.loop-i-init
unfolding bodies_text laid_list_text
loop-i-init c = (nothing c.args.out.now c.args.at, search rules, search rules)

pub loop-i-preserved : goal.loop-i-preserved
unfolding bodies_text laid_list_text
loop-i-preserved c =
    (list_next _ _ c.loop-i.i c.loop-i.invariant.0 c.parting-n.ensures (as_text (ap hex_text c.body.ensures) c.hex-n.ensures), search rules, search rules)

pub returns : goal.returns
unfolding bodies_text laid_list_text
returns c = let e : c.loop-i.i ≡ c.args.k = omega arith in as_text (ap (bodies_text c.args.s.now) e) c.loop-i.invariant.0
