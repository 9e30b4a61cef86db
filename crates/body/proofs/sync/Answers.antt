-- 8 writes the mark, else 4 clears it, else nothing is written.
use Rattle.body.proofs.Ways.{sync_starts, sync_none, sync_ends}
use Rattle.body.proofs.sync.Goals as goal

pub returns-then-flags-ne0 : goal.returns-then-flags-ne0
returns-then-flags-ne0 c =
    let a = c.args in
    sync_starts a.flags a.slot.now c.if-flags-ne0.true c.write_u8.ensures

pub returns-then-flags-eq0 : goal.returns-then-flags-eq0
returns-then-flags-eq0 c =
    let a = c.args in
    sync_none a.flags a.slot.now c.if-flags-ne0.false c.if-flags-eq0.true

pub returns : goal.returns
returns c =
    let a = c.args in
    sync_ends a.flags a.slot.now c.if-flags-ne0.false c.if-flags-eq0.false c.write_u8-2.ensures
