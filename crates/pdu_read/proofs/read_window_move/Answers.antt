-- 7 where the length is another, else the words of the record that the numbers make.
use Rattle.std.proofs.Common.{◌∙◌, refl, sym}
use Rattle.pdu.specs.Records.{record_of, size_of}
use Rattle.pdu.specs.Rules.{allowed}
use Rattle.pdu.specs.Reading.{record_as}
use Rattle.pdu_read.proofs.Ways.{window_move_words_lem, unfilled, fine, told_refused, told_message}
use Rattle.pdu_read.proofs.read_window_move.Goals as goal

pub returns-then-s-ne16 : goal.returns-then-s-ne16
unfolding record_as record_of size_of allowed
returns-then-s-ne16 c = told_refused (unfilled 0x08 refl c.args.s.now (λ q. c.if-s-ne16.true (sym q)))

pub returns : goal.returns
unfolding record_as record_of size_of allowed
returns c =
    told_message (fine 0x08 refl c.args.s.now _ refl (sym c.if-s-ne16.false) refl) (c.four_words.ensures ∙ window_move_words_lem c.args.s.now c.read_u32-id.ensures c.read_word-left.ensures c.read_word-top.ensures c.read_word-right.ensures c.read_word-bottom.ensures)
