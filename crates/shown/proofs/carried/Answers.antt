-- The bytes to the order's end, then zeros.
use Rattle.shown.proofs.StepsCarried.{carried_put}
use Rattle.shown.proofs.carried.Goals as goal

pub returns : goal.returns
returns c =
    carried_put c.args.s.now c.args.out.now c.carried_from-from.ensures c.requires c.copy_part.ensures c.clear.ensures
