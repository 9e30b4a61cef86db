-- Each position is laid as its word, the tracking sizes after them.
use Rattle.std.proofs.Common.{arith}
use Rattle.pdu_words.proofs.FromWords.{word_16, min_max_info_laid}
use Rattle.pdu_to_words.proofs.words.min_max_info_words.Goals as goal

pub returns : goal.returns
returns c =
    min_max_info_laid c.args.e c.four_words.ensures c.track_words.ensures (word_16 c.args.e.max_pos_x (omega (arith, c.struct_told-1.given)) c.word-x.ensures) (word_16 c.args.e.max_pos_y (omega (arith, c.struct_told-2-1.given)) c.word-y.ensures)
