-- One byte is cleared.
use Rattle.places.proofs.Ways.{released}
use Rattle.places_change.proofs.release.Goals as goal

pub returns : goal.returns
returns c = released c.args.bytes.now c.args.holder
