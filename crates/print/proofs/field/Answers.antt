-- The name, and the number.
use Rattle.print.proofs.Laid.{then}
use Rattle.print.proofs.field.Goals as goal

pub returns : goal.returns
returns c = then c.text-n.ensures c.decimal.ensures
