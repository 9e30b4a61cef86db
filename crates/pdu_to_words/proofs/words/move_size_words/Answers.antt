-- Start is 0 or 1, each position is laid as its word.
use Rattle.std.proofs.Common.{arith}
use Rattle.pdu_words.proofs.FromWords.{word_16, move_size_laid}
use Rattle.pdu_to_words.proofs.words.move_size_words.Goals as goal

pub returns : goal.returns
returns c =
    move_size_laid c.args.e c.four_words.ensures c.yes_number-start.ensures (word_16 c.args.e.pos_x (omega (arith, c.struct_told-1.given)) c.word-x.ensures) (word_16 c.args.e.pos_y (omega (arith, c.struct_told-2-1.given)) c.word-y.ensures)
