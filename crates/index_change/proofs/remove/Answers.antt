-- Three pointers are let go, then the slot is free.
use Rattle.index.proofs.Ways.{removed_bytes}
use Rattle.index_change.proofs.remove.Goals as goal

pub returns : goal.returns
returns c =
    let a = c.args in
    removed_bytes a.index.now a.i c.release.ensures c.release-2.ensures c.release-3.ensures c.write_u8.ensures
