-- A fresh record has no slot yet; for others the slot's ids decide.
use Rattle.std.proofs.Common.{◌∙◌}
use Rattle.index_plan.proofs.is_near.Goals as goal

pub returns : goal.returns
returns c = c.has_record.ensures ∙ rw c.if-fresh.false
