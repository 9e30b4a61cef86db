-- What writing the words answers, packed.
use Rattle.rail.proofs.Exports.{exported, written_packs}
use Rattle.rail.proofs.rail_pdu_write.Goals as goal

pub packed-requires : goal.packed-requires
packed-requires c = written_packs c.write_words-done.ensures

pub returns : goal.returns
returns c =
    exported (written_packs c.write_words-done.ensures) c.write_words-done.ensures.answer c.packed.ensures c.write_words-done.ensures.memory
