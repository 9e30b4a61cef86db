-- The two halves, one above the other.
use Rattle.update.specs.Packed.{packed_report}
use Rattle.update_call.proofs.packed.Goals as goal

pub returns : goal.returns
returns c = unfold packed_report in rw (c.standing-low.ensures, c.granted-high.ensures)
