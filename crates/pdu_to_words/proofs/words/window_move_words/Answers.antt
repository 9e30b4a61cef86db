-- Each position is laid as its word.
use Rattle.std.proofs.Common.{arith}
use Rattle.pdu_words.proofs.FromWords.{word_16, window_move_laid}
use Rattle.pdu_to_words.proofs.words.window_move_words.Goals as goal

pub returns : goal.returns
returns c =
    window_move_laid c.args.e c.four_words.ensures (word_16 c.args.e.left (omega (arith, c.struct_told-1.given)) c.word-left.ensures) (word_16 c.args.e.top (omega (arith, c.struct_told-2-1.given)) c.word-top.ensures) (word_16 c.args.e.right (omega (arith, c.struct_told-3-1.given)) c.word-right.ensures) (word_16 c.args.e.bottom (omega (arith, c.struct_told-4-1.given)) c.word-bottom.ensures)
