-- From turn to turn the digits of the bytes passed are laid.
use Rattle.std.proofs.Common.{◌-◌, ap, arith, rules, take_all}
use Rattle.print.specs.Texts.{hex_text}
use Rattle.print.proofs.Laid.{nothing, as_text}
use Rattle.print.proofs.Texts.{hex_next}
use Rattle.print.proofs.hex.Goals as goal

pub loop-i-init : goal.loop-i-init
unfolding hex_text
loop-i-init c = (nothing c.args.out.now c.args.at, search rules, search rules)

pub loop-i-preserved : goal.loop-i-preserved
unfolding hex_text
loop-i-preserved c =
    let s = c.args.s.now in (hex_next s c.loop-i.i c.loop-i-test.true c.loop-i.invariant.0 c.hex_byte-n.ensures, search rules, search rules)

pub returns : goal.returns
unfolding hex_text
returns c = let s = c.args.s.now in as_text (ap hex_text (take_all c.loop-i.i s (omega arith))) c.loop-i.invariant.0
