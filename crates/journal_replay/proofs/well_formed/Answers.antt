-- The rule is met just where there is an extent.
use Rattle.std.proofs.Common.{◌∙◌}
use Rattle.journal.proofs.Validations.{rule_decided}
use Rattle.journal_replay.proofs.well_formed.Goals as goal

pub returns : goal.returns
returns c p is = c.is_some.ensures ∙ rule_decided c.extent.ensures p is
