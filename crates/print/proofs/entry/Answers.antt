-- The byte that parts it, and the number.
use Rattle.print.proofs.Laid.{then}
use Rattle.print.proofs.entry.Goals as goal

pub returns : goal.returns
returns c = then c.parting-n.ensures c.decimal.ensures
