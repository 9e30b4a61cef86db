-- 7 where the length is another, else the words of the record that the numbers make.
use Rattle.std.proofs.Common.{refl, sym}
use Rattle.pdu.specs.Records.{record_of, size_of}
use Rattle.pdu.specs.Rules.{allowed}
use Rattle.pdu.specs.Reading.{record_as}
use Rattle.pdu_words.specs.Words.{words_of}
use Rattle.pdu_read.proofs.Ways.{application_id_response_is, unfilled, fine, told_refused, told_message}
use Rattle.pdu_read.proofs.read_application_id_response.Goals as goal

pub returns-then-s-ne528 : goal.returns-then-s-ne528
unfolding record_as record_of size_of allowed words_of
returns-then-s-ne528 c = told_refused (unfilled 0x0F refl c.args.s.now (λ q. c.if-s-ne528.true (sym q)))

pub returns : goal.returns
unfolding record_as record_of size_of allowed words_of
returns c =
    told_message (fine 0x0F refl c.args.s.now _ (application_id_response_is c.args.s.now c.read_u32.ensures) (sym c.if-s-ne528.false) refl) c.application_id_response_words.ensures
