-- 7 where the length is another, 8 where the rule fails, else the words of the record that the numbers make.
use Rattle.std.proofs.Common.{ℕ, ◌∙◌, ap, refl, sym}
use Rattle.pdu.specs.Records.{is_yes, yes_number, record_of, size_of}
use Rattle.wire.specs.Numbers.{nums_at}
use Rattle.pdu.specs.Layout.{widths}
use Rattle.pdu.specs.Rules.{move_size_type_ok, allowed}
use Rattle.pdu.specs.Reading.{record_as}
use Rattle.pdu_read.proofs.Ways.{move_size_words_lem, unfilled, outside, fine, told_refused, told_message}
use Rattle.pdu_read.proofs.read_move_size.Goals as goal

pub returns-then-s-ne16 : goal.returns-then-s-ne16
unfolding record_as record_of widths nums_at size_of allowed
returns-then-s-ne16 c = told_refused (unfilled 0x09 refl c.args.s.now (λ q. c.if-s-ne16.true (sym q)))

pub returns-then-not-move_size_type_allowed : goal.returns-then-not-move_size_type_allowed
unfolding record_as record_of widths nums_at size_of allowed
returns-then-not-move_size_type_allowed c =
    told_refused (outside 0x09 refl c.args.s.now _ refl (sym c.if-s-ne16.false) (ap move_size_type_ok (sym c.read_u16-kind.ensures) ∙ sym c.move_size_type_allowed.ensures ∙ c.if-not-move_size_type_allowed.true))

pub returns : goal.returns
unfolding record_as record_of widths nums_at size_of allowed
returns c =
    told_message (fine 0x09 refl c.args.s.now _ refl (sym c.if-s-ne16.false) (ap move_size_type_ok (sym c.read_u16-kind.ensures) ∙ sym c.move_size_type_allowed.ensures ∙ c.if-not-move_size_type_allowed.false)) (c.four_words.ensures ∙ move_size_words_lem c.args.s.now c.read_u32-id.ensures (c.start_number-start.ensures ∙ ap (λ (n : ℕ). yes_number (is_yes n)) c.read_u16.ensures) c.read_u16-kind.ensures c.read_word-x.ensures c.read_word-y.ensures)
