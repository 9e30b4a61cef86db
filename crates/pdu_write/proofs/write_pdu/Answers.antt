-- The words of a record in memory stand for it.
use Rattle.pdu_put.proofs.Ways.{from_words}
use Rattle.pdu_write.proofs.write_pdu.Goals as goal

pub returns : goal.returns
returns c = from_words c.well_formed.0 c.words_of.ensures c.write_words.ensures
