-- The first field, the byte and the second number.
use Rattle.print.proofs.Laid.{then}
use Rattle.print.proofs.pair.Goals as goal

pub returns : goal.returns
returns c = then (then c.field-n.ensures c.byte-n.ensures) c.decimal.ensures
