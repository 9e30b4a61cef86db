-- Three writes, one behind the other.
use Rattle.index.proofs.Ways.{listed_bytes_lem}
use Rattle.index_change.proofs.list.Goals as goal

pub returns : goal.returns
returns c =
    let a = c.args in
    listed_bytes_lem a.index.now a.i a.a a.b c.write_u8.ensures c.write_u32.ensures c.write_u32-2.ensures
