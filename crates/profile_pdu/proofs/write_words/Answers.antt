-- Written unless the profile's refusal applies, which is that of the record where the plain rules grant it.
use Rattle.pdu_put.proofs.Ways.{as_refusal}
use Rattle.profile.proofs.Counter.{counter_wrote}
use Rattle.profile_pdu.proofs.write_words.Goals as goal

pub returns : goal.returns
returns c =
    let b = c.args in
    counter_wrote b.w.now b.src.now b.out.now c.verdict.result c.verdict.ensures (as_refusal c.write_unless.ensures)
