-- By the two pointers.
use Rattle.session.proofs.Targets.{shares_read}
use Rattle.lookups.proofs.shares.Goals as goal

pub returns : goal.returns
returns c =
    let a = c.args in shares_read a.d.now a.g a.k c.holder_number.ensures c.pointer-p.ensures c.holder_number-2.ensures c.pointer-q.ensures
