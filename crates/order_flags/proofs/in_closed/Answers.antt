-- The tests are those of the definition, joined alike.
use Rattle.std.proofs.Common.{refl}
use Rattle.order_flags.proofs.in_closed.Goals as goal

pub returns : goal.returns
returns c = refl
