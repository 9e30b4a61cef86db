-- Words that stand for a record are within the limits of their type.
use Rattle.pdu_from_words.proofs.Fitting.{standing_fits}
use Rattle.pdu_from_words.proofs.message_from.Goals as goal

pub from_words-requires : goal.from_words-requires
from_words-requires g c = standing_fits _ _ c.requires.stands c.requires.of_the_type
