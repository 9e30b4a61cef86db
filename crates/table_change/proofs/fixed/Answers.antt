-- Both ways are the definition's.
use Rattle.table.proofs.Ways.{fixed_most, fixed_lent}
use Rattle.table_change.proofs.fixed.Goals as goal

pub returns-then-lent : goal.returns-then-lent
returns-then-lent c = fixed_most c.args.lent c.if-lent.true

pub returns : goal.returns
returns c = fixed_lent c.args.lent c.if-lent.false
