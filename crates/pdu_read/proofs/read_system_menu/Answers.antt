-- 7 where the length is another, else the words of the record that the numbers make.
use Rattle.std.proofs.Common.{◌∙◌, refl, sym}
use Rattle.pdu.specs.Records.{record_of, size_of}
use Rattle.pdu.specs.Rules.{allowed}
use Rattle.pdu.specs.Reading.{record_as}
use Rattle.pdu_read.proofs.Ways.{system_menu_words_lem, unfilled, fine, told_refused, told_message}
use Rattle.pdu_read.proofs.read_system_menu.Goals as goal

pub returns-then-s-ne12 : goal.returns-then-s-ne12
unfolding record_as record_of size_of allowed
returns-then-s-ne12 c = told_refused (unfilled 0x0C refl c.args.s.now (λ q. c.if-s-ne12.true (sym q)))

pub returns : goal.returns
unfolding record_as record_of size_of allowed
returns c =
    told_message (fine 0x0C refl c.args.s.now _ refl (sym c.if-s-ne12.false) refl) (c.four_words.ensures ∙ system_menu_words_lem c.args.s.now c.read_u32-id.ensures c.read_word-left.ensures c.read_word-top.ensures)
