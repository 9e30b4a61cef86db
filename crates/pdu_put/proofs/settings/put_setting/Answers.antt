-- Each shape writes its numbers, and they are those of the record.
use Rattle.std.proofs.Common.{◌∙◌, sym}
use Rattle.pdu_words.proofs.FromWords.{inside_byte, inside_area}
use Rattle.pdu_put.proofs.Puts.{scheme_ready}
use Rattle.pdu_put.proofs.SettingWays.{ready_as, put_as, byte_room, byte_written, area_room, area_written, is_scheme}
use Rattle.pdu_put.proofs.settings.put_setting.Goals as goal

pub value_from-value-requires : goal.value_from-value-requires
value_from-value-requires c = inside_byte c.requires.0 (sym c.is_byte_setting.ensures ∙ c.if-is_byte_setting.true)

pub put_byte-requires : goal.put_byte-requires
put_byte-requires c = byte_room c.args.w.now (sym c.is_byte_setting.ensures ∙ c.if-is_byte_setting.true) c.requires.1

pub returns-then-is_byte_setting : goal.returns-then-is_byte_setting
returns-then-is_byte_setting c =
    byte_written c.args.w.now (sym c.is_byte_setting.ensures ∙ c.if-is_byte_setting.true) c.value_from-value.ensures c.put_byte.ensures

pub area_from-a-requires : goal.area_from-a-requires
area_from-a-requires c =
    inside_area c.requires.0 (sym c.is_byte_setting.ensures ∙ c.if-is_byte_setting.false) (sym c.is_area_setting.ensures ∙ c.if-is_area_setting.true)

pub put_four-requires : goal.put_four-requires
put_four-requires c =
    area_room c.args.w.now (sym c.is_byte_setting.ensures ∙ c.if-is_byte_setting.false) (sym c.is_area_setting.ensures ∙ c.if-is_area_setting.true) c.requires.1

pub returns-then-is_area_setting : goal.returns-then-is_area_setting
returns-then-is_area_setting c =
    area_written c.args.w.now (sym c.is_byte_setting.ensures ∙ c.if-is_byte_setting.false) (sym c.is_area_setting.ensures ∙ c.if-is_area_setting.true) c.area_from-a.ensures c.put_four.ensures

pub put_high_contrast-requires : goal.put_high_contrast-requires
put_high_contrast-requires c =
    scheme_ready (ready_as (is_scheme c.args.w.now (sym c.is_byte_setting.ensures ∙ c.if-is_byte_setting.false) (sym c.is_area_setting.ensures ∙ c.if-is_area_setting.false) c.high_contrast_from-e.ensures) c.requires.1)

pub returns : goal.returns
returns c =
    put_as (is_scheme c.args.w.now (sym c.is_byte_setting.ensures ∙ c.if-is_byte_setting.false) (sym c.is_area_setting.ensures ∙ c.if-is_area_setting.false) c.high_contrast_from-e.ensures) c.put_high_contrast.ensures
