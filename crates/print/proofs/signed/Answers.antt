-- The sign, and how far the number is from 0.
use Rattle.print.proofs.Laid.{as_text, then}
use Rattle.print.proofs.Signs.{negative_text, plain_text}
use Rattle.print.proofs.signed.Goals as goal

pub returns-then-v-lt0 : goal.returns-then-v-lt0
returns-then-v-lt0 c =
    as_text (negative_text c.args.v c.ranges.v c.if-v-lt0.true _ c.magnitude.ensures) (then c.byte-n.ensures c.decimal.ensures)

pub returns : goal.returns
returns c = as_text (plain_text c.args.v c.ranges.v c.if-v-lt0.false _ c.magnitude-2.ensures) c.decimal-2.ensures
