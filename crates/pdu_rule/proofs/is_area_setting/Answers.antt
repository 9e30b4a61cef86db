-- The tests are those of the list.
use Rattle.std.proofs.Common.{refl}
use Rattle.pdu.specs.Settings.{is_area}
use Rattle.pdu_rule.proofs.is_area_setting.Goals as goal

pub returns : goal.returns
unfolding is_area
returns c = refl
