-- Each position is laid as its word.
use Rattle.std.proofs.Common.{arith}
use Rattle.pdu_words.proofs.FromWords.{word_16, system_menu_laid}
use Rattle.pdu_to_words.proofs.words.system_menu_words.Goals as goal

pub returns : goal.returns
returns c =
    system_menu_laid c.args.e c.four_words.ensures (word_16 c.args.e.left (omega (arith, c.struct_told-1.given)) c.word-left.ensures) (word_16 c.args.e.top (omega (arith, c.struct_told-2-1.given)) c.word-top.ensures)
