-- The overlay description and the bytes after it are the last rows.
use Rattle.body_rule.proofs.Ways.{last_sets}
use Rattle.body_rule.proofs.last_sets.Goals as goal

pub returns : goal.returns
returns c = last_sets c.args.slot.now c.in_set-a.ensures c.last_bytes-b.ensures
