-- The tests are firstSize's, on what is left of the update; OrderSize is read at its index.
use Rattle.update.proofs.Cuts.{ends_missing, ends_rest, ends_sized}
use Rattle.update_call.proofs.cut.Goals as goal

pub returns-then-left-lt-HEAD : goal.returns-then-left-lt-HEAD
returns-then-left-lt-HEAD c = ends_missing c.args.s.now c.args.at c.requires c.if-left-lt-HEAD.true

pub returns-then-size-left : goal.returns-then-size-left
returns-then-size-left c =
    ends_rest c.args.s.now c.args.at c.requires c.if-left-lt-HEAD.false c.read_u16-size.ensures c.if-size-left.true

pub returns : goal.returns
returns c =
    ends_sized c.args.s.now c.args.at c.requires c.if-left-lt-HEAD.false c.read_u16-size.ensures c.if-size-left.false
