-- Each arm is the row of its number, the last one what is left.
use Rattle.std.proofs.Common.{ne_eqb}
use Rattle.pdu.specs.Settings.{setting_with}
use Rattle.pdu_rule.proofs.byte_setting.Goals as goal

pub returns-in-37 : goal.returns-in-37
unfolding setting_with
returns-in-37 c = rw c.in-37.is

pub returns-in-4107 : goal.returns-in-4107
unfolding setting_with
returns-in-4107 c = rw c.in-4107.is

pub returns-in-69 : goal.returns-in-69
unfolding setting_with
returns-in-69 c = rw c.in-69.is

pub returns-in-33 : goal.returns-in-33
unfolding setting_with
returns-in-33 c = rw c.in-33.is

pub returns-in-17 : goal.returns-in-17
unfolding setting_with
returns-in-17 c = rw c.in-17.is

pub returns-in_default : goal.returns-in_default
unfolding setting_with
returns-in_default c =
    rw (ne_eqb _ 0x25 c.in_default.in_default-own.rest.0.0.0.0.1, ne_eqb _ 0x100B c.in_default.in_default-own.rest.0.0.0.1, ne_eqb _ 0x45 c.in_default.in_default-own.rest.0.0.1, ne_eqb _ 0x21 c.in_default.in_default-own.rest.0.1, ne_eqb _ 0x11 c.in_default.in_default-own.rest.1)
