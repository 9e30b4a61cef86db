-- Outside the caches or within.
use Rattle.session.proofs.Targets.{cell_outside, cell_inside}
use Rattle.lookups.proofs.cell_number.Goals as goal

pub returns-then-not-inside : goal.returns-then-not-inside
returns-then-not-inside c = cell_outside c.args.cache c.args.entry (c.if-not-inside.true)

pub returns : goal.returns
returns c = cell_inside c.args.cache c.args.entry (c.if-not-inside.false)
