-- The first rows and the last ones are all the rows.
use Rattle.body_rule.proofs.Ways.{first_fails, last_decides}
use Rattle.body_rule.proofs.window_ok.Goals as goal

pub returns-then-not-first_sets : goal.returns-then-not-first_sets
returns-then-not-first_sets c = first_fails c.args.slot.now c.first_sets.ensures (c.if-not-first_sets.true)

pub returns : goal.returns
returns c = last_decides c.args.slot.now c.first_sets.ensures (c.if-not-first_sets.false) c.last_sets.ensures
