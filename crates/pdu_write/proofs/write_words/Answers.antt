-- No further error applies.
use Rattle.pdu_put.proofs.Ways.{as_refusal, no_further}
use Rattle.pdu_write.proofs.write_words.Goals as goal

pub returns : goal.returns
returns c = no_further (as_refusal c.write_unless.ensures)
