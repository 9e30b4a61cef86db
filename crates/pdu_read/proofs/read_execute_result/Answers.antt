-- 7 where the string does not make the length of the message, 8 where the rule fails, else the words of the record that the numbers make.
use Rattle.std.proofs.Common.{◌∙◌, arith, refl, sym}
use Rattle.wire.specs.Numbers.{nums_at}
use Rattle.pdu.specs.Layout.{widths}
use Rattle.pdu.specs.Records.{record_of, size_of}
use Rattle.pdu.specs.Rules.{allowed}
use Rattle.pdu.specs.Reading.{record_as}
use Rattle.pdu_words.specs.Words.{words_of}
use Rattle.pdu_read.proofs.Ways.{execute_result_is, unfilled, outside, fine, told_refused, told_message}
use Rattle.pdu_read.proofs.read_execute_result.Goals as goal

pub returns-then-s-lt16 : goal.returns-then-s-lt16
unfolding record_as record_of widths nums_at size_of allowed words_of
returns-then-s-lt16 c = told_refused (unfilled 0x80 refl c.args.s.now (λ q. omega (arith, q, c.if-s-lt16.true)))

pub returns-then-a-s : goal.returns-then-a-s
unfolding record_as record_of widths nums_at size_of allowed words_of
returns-then-a-s c = told_refused (unfilled 0x80 refl c.args.s.now (λ q. c.if-a-s.true (omega (arith, q, c.read_u16-a.ensures))))

pub returns-then-not-execute_result_allowed : goal.returns-then-not-execute_result_allowed
unfolding record_as record_of widths nums_at size_of allowed words_of
returns-then-not-execute_result_allowed c =
    told_refused (outside 0x80 refl c.args.s.now _ (execute_result_is c.args.s.now c.read_u16.ensures c.read_u16-2.ensures c.read_u32.ensures c.read_u16-a.ensures) c.if-a-s.false (sym c.execute_result_allowed.ensures ∙ c.if-not-execute_result_allowed.true))

pub returns : goal.returns
unfolding record_as record_of widths nums_at size_of allowed words_of
returns c =
    told_message (fine 0x80 refl c.args.s.now _ (execute_result_is c.args.s.now c.read_u16.ensures c.read_u16-2.ensures c.read_u32.ensures c.read_u16-a.ensures) c.if-a-s.false (sym c.execute_result_allowed.ensures ∙ c.if-not-execute_result_allowed.false)) c.execute_result_words.ensures
