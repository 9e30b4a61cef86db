-- The show state by itself, then the others.
use Rattle.body_rule.proofs.Ways.{first_unset, first_rest}
use Rattle.body_rule.proofs.first_sets.Goals as goal

pub returns-then-not-in_set : goal.returns-then-not-in_set
returns-then-not-in_set c = first_unset c.args.slot.now c.in_set.ensures (c.if-not-in_set.true)

pub returns : goal.returns
returns c =
    first_rest c.args.slot.now c.in_set.ensures (c.if-not-in_set.false) c.in_set-a.ensures c.in_set-b.ensures c.in_set-c.ensures c.in_set-d.ensures
