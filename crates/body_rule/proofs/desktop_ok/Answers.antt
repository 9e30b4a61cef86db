-- Of the two rows of the desktop one has a set.
use Rattle.body_rule.proofs.Ways.{desktop_sets}
use Rattle.body_rule.proofs.desktop_ok.Goals as goal

pub returns : goal.returns
returns c = desktop_sets c.args.slot.now c.in_set.ensures
