-- By the kind: a change of the journal, or something handed out.
use Rattle.std.proofs.Common.{sym}
use Rattle.store.specs.Store.{five}
use Rattle.run.proofs.Calls.{journaled, hands}
use Rattle.run.proofs.journal_call.Goals as goal

pub journal_block-requires : goal.journal_block-requires
journal_block-requires c = (journaled c.args.kind c.requires.0 c.requires.1 c.if-kind.true, c.requires.3)

pub returns-then-kind : goal.returns-then-kind
returns-then-kind c =
    c.journal_block.ensures (five c.args.a.now c.args.b.now c.args.c.now c.args.d.now c.args.e.now) (sym c.requires.2)

pub hand_out-requires : goal.hand_out-requires
hand_out-requires c = (hands c.args.kind c.if-kind.false, c.requires.2, c.requires.3)

pub returns : goal.returns
returns c = c.hand_out.ensures
