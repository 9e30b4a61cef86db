-- Words of another type stand for no record.
use Rattle.std.proofs.Common.{◌≡◌, false, arith}
use Rattle.std.proofs.lemmas.Grind.{common_steps}
use Rattle.pdu.specs.Layout.{known}
use Rattle.pdu_words.specs.FromWords.{stand}
use Rattle.pdu_put.proofs.Ways.{no_record}
use Rattle.pdu_write.proofs.write_unless.Goals as goal

pub returns-in_default : goal.returns-in_default
unfolding stand known
returns-in_default g c = let none : stand c.args.w.now ≡ false = grind (arith, common_steps) in no_record _ c.args.further c.from.ensures none
