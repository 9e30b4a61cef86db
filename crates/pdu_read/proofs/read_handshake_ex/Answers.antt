-- 7 where the length is another, else the words of the record that the numbers make.
use Rattle.std.proofs.Common.{refl, sym}
use Rattle.pdu.specs.Records.{record_of, size_of}
use Rattle.pdu.specs.Rules.{allowed}
use Rattle.pdu.specs.Reading.{record_as}
use Rattle.pdu_words.specs.Words.{words_of}
use Rattle.pdu_read.proofs.Ways.{handshake_ex_is, unfilled, fine, told_refused, told_message}
use Rattle.pdu_read.proofs.read_handshake_ex.Goals as goal

pub returns-then-s-ne12 : goal.returns-then-s-ne12
unfolding record_as record_of size_of allowed words_of
returns-then-s-ne12 c = told_refused (unfilled 0x13 refl c.args.s.now (λ q. c.if-s-ne12.true (sym q)))

pub returns : goal.returns
unfolding record_as record_of size_of allowed words_of
returns c =
    told_message (fine 0x13 refl c.args.s.now _ (handshake_ex_is c.args.s.now c.read_u32.ensures c.read_u32-2.ensures) (sym c.if-s-ne12.false) refl) c.handshake_ex_words.ensures
