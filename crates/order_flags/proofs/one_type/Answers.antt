-- Of the three bits the count of ones is 1.
use Rattle.std.proofs.Common.{ℕ, ap}
use Rattle.order.proofs.TypeBits.{type_ones}
use lib.Dec.{eqb}
use Rattle.order_flags.proofs.one_type.Goals as goal

pub returns : goal.returns
returns c = ap (λ (n : ℕ). eqb n 1) (type_ones c.args.flags)
