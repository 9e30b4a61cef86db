-- The two numbers are those of the field's 8 bytes.
use Rattle.view.proofs.ViewsRead.{pair_is}
use Rattle.view.proofs.parts.pair.Goals as goal

pub returns : goal.returns
returns c =
    let a = c.args in
    pair_is a.s.now a.at c.read_u32-x.ensures c.read_u32-y.ensures
