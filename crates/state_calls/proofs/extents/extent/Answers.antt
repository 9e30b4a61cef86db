-- What validation answers with nothing looked up, in every store that lends so many places.
use Rattle.std.proofs.Common.{refl}
use Rattle.state_calls.proofs.extents.extent.Goals as goal

pub extent-requires : goal.extent-requires
extent-requires c = refl

pub returns : goal.returns
returns c p is = (c.extent.ensures p is).extent
