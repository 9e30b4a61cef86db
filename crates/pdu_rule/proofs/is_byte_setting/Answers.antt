-- The tests are those of the list.
use Rattle.std.proofs.Common.{refl}
use Rattle.pdu.specs.Settings.{is_byte}
use Rattle.pdu_rule.proofs.is_byte_setting.Goals as goal

pub returns : goal.returns
unfolding is_byte
returns c = refl
