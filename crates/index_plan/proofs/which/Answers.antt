-- The bits tell.
use Rattle.index.proofs.Ways.{is_big, is_overlay, is_small_lem}
use Rattle.index_plan.proofs.which.Goals as goal

pub returns-then-flags-ne0 : goal.returns-then-flags-ne0
returns-then-flags-ne0 c = is_big c.args.flags c.if-flags-ne0.true

pub returns-then-flags-ne0-2 : goal.returns-then-flags-ne0-2
returns-then-flags-ne0-2 c = is_overlay c.args.flags c.if-flags-ne0.false c.if-flags-ne0-2.true

pub returns : goal.returns
returns c = is_small_lem c.args.flags c.if-flags-ne0.false c.if-flags-ne0-2.false
