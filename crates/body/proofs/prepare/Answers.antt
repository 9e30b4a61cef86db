-- A slot that is made empty is cleared from its first byte to its last.
use Rattle.std.proofs.Common.{ap, not}
use Rattle.body.proofs.Ways.{prepare_none, prepare_all}
use Rattle.body.proofs.prepare.Goals as goal

pub returns-then-not-fresh : goal.returns-then-not-fresh
returns-then-not-fresh c = prepare_none c.args.fresh c.args.slot.now (ap not c.if-not-fresh.true)

pub returns : goal.returns
returns c =
    let a = c.args in
    prepare_all a.fresh a.slot.now (ap not c.if-not-fresh.false) c.clear.ensures
