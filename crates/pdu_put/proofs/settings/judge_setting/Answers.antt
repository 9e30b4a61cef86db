-- One byte and a rectangle take any value; a color scheme is judged by itself.
use Rattle.std.proofs.Common.{◌∙◌, sym}
use Rattle.pdu_put.proofs.SettingWays.{judged_as, byte_judged, area_judged, is_scheme}
use Rattle.pdu_put.proofs.settings.judge_setting.Goals as goal

pub returns-then-is_byte_setting : goal.returns-then-is_byte_setting
returns-then-is_byte_setting c = byte_judged c.args.w.now (sym c.is_byte_setting.ensures ∙ c.if-is_byte_setting.true) c.args.n

pub returns-then-is_area_setting : goal.returns-then-is_area_setting
returns-then-is_area_setting c =
    area_judged c.args.w.now (sym c.is_byte_setting.ensures ∙ c.if-is_byte_setting.false) (sym c.is_area_setting.ensures ∙ c.if-is_area_setting.true) c.args.n

pub returns : goal.returns
returns c =
    judged_as c.args.n (is_scheme c.args.w.now (sym c.is_byte_setting.ensures ∙ c.if-is_byte_setting.false) (sym c.is_area_setting.ensures ∙ c.if-is_area_setting.false) c.high_contrast_from.ensures) c.judge_high_contrast.ensures
