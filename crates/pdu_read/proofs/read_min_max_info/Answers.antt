-- 7 where the length is another, else the words of the record that the numbers make.
use Rattle.std.proofs.Common.{refl, sym}
use Rattle.pdu.specs.Records.{record_of, size_of}
use Rattle.pdu.specs.Rules.{allowed}
use Rattle.pdu.specs.Reading.{record_as}
use Rattle.pdu_read.proofs.Ways.{min_max_info_words_lem, unfilled, fine, told_refused, told_message}
use Rattle.pdu_read.proofs.read_min_max_info.Goals as goal

pub returns-then-s-ne24 : goal.returns-then-s-ne24
unfolding record_as record_of size_of allowed
returns-then-s-ne24 c = told_refused (unfilled 0x0A refl c.args.s.now (λ q. c.if-s-ne24.true (sym q)))

pub returns : goal.returns
unfolding record_as record_of size_of allowed
returns c =
    told_message (fine 0x0A refl c.args.s.now _ refl (sym c.if-s-ne24.false) refl) (min_max_info_words_lem c.args.s.now c.read_u32-id.ensures c.read_u16-width.ensures c.read_u16-height.ensures c.read_word-pos_x.ensures c.read_word-pos_y.ensures c.read_u16-a.ensures c.read_u16-b.ensures c.read_u16-c.ensures c.read_u16-d.ensures c.four_words.ensures c.track_words.ensures)
