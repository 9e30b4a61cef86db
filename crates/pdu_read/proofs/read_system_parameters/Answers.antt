-- 7 without the four bytes of the setting, then the lines of the body that its number says, 8 for a number of none.
use Rattle.std.proofs.Common.{◌∙◌, sym}
use Rattle.pdu_read.proofs.Ways.{setting_cut, setting_unknown, told_refused}
use Rattle.pdu_read.proofs.read_system_parameters.Goals as goal

pub returns-then-s-lt8 : goal.returns-then-s-lt8
returns-then-s-lt8 c = told_refused (setting_cut c.args.s.now c.if-s-lt8.true)

pub read_byte_setting-requires : goal.read_byte_setting-requires
read_byte_setting-requires c = (c.read_u32-number.ensures, sym c.is_byte_setting.ensures ∙ c.if-is_byte_setting.true)

pub returns-then-is_byte_setting : goal.returns-then-is_byte_setting
returns-then-is_byte_setting c = c.read_byte_setting.ensures

pub read_area_setting-requires : goal.read_area_setting-requires
read_area_setting-requires c =
    (c.read_u32-number.ensures, sym c.is_byte_setting.ensures ∙ c.if-is_byte_setting.false, sym c.is_area_setting.ensures ∙ c.if-is_area_setting.true)

pub returns-then-is_area_setting : goal.returns-then-is_area_setting
returns-then-is_area_setting c = c.read_area_setting.ensures

pub read_high_contrast-requires : goal.read_high_contrast-requires
read_high_contrast-requires c = sym c.if-number-eq67.true ∙ c.read_u32-number.ensures

pub returns-then-number-eq67 : goal.returns-then-number-eq67
returns-then-number-eq67 c = c.read_high_contrast.ensures

pub returns : goal.returns
returns c =
    told_refused (setting_unknown c.args.s.now c.read_u32-number.ensures c.if-s-lt8.false (sym c.is_byte_setting.ensures ∙ c.if-is_byte_setting.false) (sym c.is_area_setting.ensures ∙ c.if-is_area_setting.false) c.if-number-eq67.false)
