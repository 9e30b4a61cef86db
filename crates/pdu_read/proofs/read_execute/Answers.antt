-- 7 where the lengths do not make the length of the message, 8 where the rule fails, else the words of the record that the numbers make.
use Rattle.std.proofs.Common.{◌∙◌, arith, refl, sym}
use Rattle.wire.specs.Numbers.{nums_at}
use Rattle.pdu.specs.Layout.{widths}
use Rattle.pdu.specs.Records.{record_of, size_of}
use Rattle.pdu.specs.Rules.{allowed}
use Rattle.pdu.specs.Reading.{record_as}
use Rattle.pdu_words.specs.Words.{words_of}
use Rattle.pdu_read.proofs.Ways.{execute_is, unfilled, outside, fine, told_refused, told_message}
use Rattle.pdu_read.proofs.read_execute.Goals as goal

pub returns-then-s-lt12 : goal.returns-then-s-lt12
unfolding record_as record_of widths nums_at size_of allowed words_of
returns-then-s-lt12 c = told_refused (unfilled 0x01 refl c.args.s.now (λ q. omega (arith, q, c.if-s-lt12.true)))

pub returns-then-a-b : goal.returns-then-a-b
unfolding record_as record_of widths nums_at size_of allowed words_of
returns-then-a-b c =
    told_refused (unfilled 0x01 refl c.args.s.now (λ q. c.if-a-b.true (omega (arith, q, c.read_u16-a.ensures, c.read_u16-b.ensures, c.read_u16-c.ensures))))

pub returns-then-not-execute_allowed : goal.returns-then-not-execute_allowed
unfolding record_as record_of widths nums_at size_of allowed words_of
returns-then-not-execute_allowed c =
    told_refused (outside 0x01 refl c.args.s.now _ (execute_is c.args.s.now c.read_u16.ensures c.read_u16-a.ensures c.read_u16-b.ensures c.read_u16-c.ensures) c.if-a-b.false (sym c.execute_allowed.ensures ∙ c.if-not-execute_allowed.true))

pub returns : goal.returns
unfolding record_as record_of widths nums_at size_of allowed words_of
returns c =
    told_message (fine 0x01 refl c.args.s.now _ (execute_is c.args.s.now c.read_u16.ensures c.read_u16-a.ensures c.read_u16-b.ensures c.read_u16-c.ensures) c.if-a-b.false (sym c.execute_allowed.ensures ∙ c.if-not-execute_allowed.false)) c.execute_words.ensures
