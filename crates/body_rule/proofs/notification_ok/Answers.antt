-- Of the rows of a notification icon three have a set.
use Rattle.body_rule.proofs.Ways.{notification_sets}
use Rattle.body_rule.proofs.notification_ok.Goals as goal

pub returns : goal.returns
returns c = notification_sets c.args.slot.now c.in_set-a.ensures c.in_set-b.ensures c.in_set-c.ensures
