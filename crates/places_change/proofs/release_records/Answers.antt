-- The icons' pointers lie together.
use Rattle.places.proofs.Ways.{records_released}
use Rattle.places_change.proofs.release_records.Goals as goal

pub returns : goal.returns
returns c = records_released c.args.bytes.now c.copy_at.ensures
