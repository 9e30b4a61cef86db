-- Deleted, without an icon, or with one: each line of the definition.
use Rattle.index.proofs.StepsOfPlans.{held_plain, held_icon}
use Rattle.index_step.proofs.held_after.Goals as goal

pub returns-then-c-eq0 : goal.returns-then-c-eq0
returns-then-c-eq0 c = held_plain c.args.c c.if-c.false c.if-c-eq0.true

pub returns : goal.returns
returns c = held_icon c.args.c c.if-c.false c.if-c-eq0.false
