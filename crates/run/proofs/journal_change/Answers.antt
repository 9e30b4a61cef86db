-- Each kind is a call of its own, and its outcome is carried over to change_of.
use Rattle.run.proofs.Calls.{outcome_as, is_deliver, is_undo}
use Rattle.run.proofs.journal_change.Goals as goal

pub returns-then-kind-eq1 : goal.returns-then-kind-eq1
returns-then-kind-eq1 c p is = outcome_as (is_deliver c.args.lent c.args.kind c.args.arg.now c.if-kind-eq1.true) (c.deliver.ensures p is)

pub returns : goal.returns
returns c p is =
    outcome_as (is_undo c.args.lent c.args.kind c.args.arg.now c.requires.no_reset c.if-kind-eq1.false c.requires.no_checkpoint _ c.read_u64-k.ensures) (c.undo.ensures p is)
