-- Each arm is the row of its number, the last one what is left.
use Rattle.std.proofs.Common.{ne_eqb}
use Rattle.pdu.specs.Settings.{setting_with}
use Rattle.pdu_rule.proofs.area_setting.Goals as goal

pub returns-in-47 : goal.returns-in-47
unfolding setting_with
returns-in-47 c = rw c.in-47.is

pub returns-in-61440 : goal.returns-in-61440
unfolding setting_with
returns-in-61440 c = rw c.in-61440.is

pub returns-in_default : goal.returns-in_default
unfolding setting_with
returns-in_default c = rw (ne_eqb _ 0x2F c.in_default.in_default-own.rest.0.1, ne_eqb _ 0xF000 c.in_default.in_default-own.rest.1)
