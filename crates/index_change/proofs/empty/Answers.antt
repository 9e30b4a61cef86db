-- All zeros, then the number of places.
use Rattle.index.proofs.Ways.{emptied}
use Rattle.index_change.proofs.empty.Goals as goal

pub returns : goal.returns
returns c =
    let a = c.args in
    emptied a.index.now a.places c.clear.ensures c.write_u8.ensures
