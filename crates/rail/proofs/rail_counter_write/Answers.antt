-- What writing the words answers, packed.
use Rattle.rail.proofs.Exports.{exported, counter_packs}
use Rattle.rail.proofs.rail_counter_write.Goals as goal

pub packed-requires : goal.packed-requires
packed-requires c = counter_packs c.write_words-done.ensures

pub returns : goal.returns
returns c =
    exported (counter_packs c.write_words-done.ensures) c.write_words-done.ensures.answer c.packed.ensures c.write_words-done.ensures.memory
