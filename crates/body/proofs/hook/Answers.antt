-- 2 writes the mark, else nothing is written.
use Rattle.body.proofs.Ways.{hook_none, hook_set}
use Rattle.body.proofs.hook.Goals as goal

pub returns-then-flags-eq0 : goal.returns-then-flags-eq0
returns-then-flags-eq0 c = hook_none c.args.flags c.args.slot.now c.if-flags-eq0.true

pub returns : goal.returns
returns c =
    let a = c.args in
    hook_set a.flags a.slot.now c.if-flags-eq0.false c.write_u8.ensures
