-- An update by itself, a single call by its reply.
use Rattle.std.proofs.Common.{◌∙◌, ap, arith}
use Rattle.run.specs.Script.{change_of, block_length}
use Rattle.run.proofs.Calls.{hands_nothing, done_as, is_update, steps_change, change_length, reply_block}
use Rattle.run.proofs.journal_block.Goals as goal

pub update_all-requires : goal.update_all-requires
update_all-requires c = c.requires.1 ∙ ap block_length (is_update c.args.lent c.args.kind c.args.arg.now c.if-kind-eq-UPDATE.true)

pub returns-then-kind-eq-UPDATE : goal.returns-then-kind-eq-UPDATE
returns-then-kind-eq-UPDATE c p is =
    done_as (is_update c.args.lent c.args.kind c.args.arg.now c.if-kind-eq-UPDATE.true) (c.update_all.ensures p is)

pub journal_change-r-requires : goal.journal_change-r-requires
journal_change-r-requires c = c.requires.0

pub put_reply-requires : goal.put_reply-requires
put_reply-requires c =
    omega (arith, c.requires.1, change_length c.args.lent c.args.kind c.args.arg.now c.requires.0 c.if-kind-eq-UPDATE.false)

pub returns : goal.returns
returns c p is =
    let left = c.if-kind-eq-UPDATE.false in
    done_as (steps_change c.args.lent c.args.kind c.args.arg.now c.requires.0 left)
    (reply_block (change_of c.args.lent c.args.kind c.args.arg.now) c.args.out.now (hands_nothing c.args.lent c.args.kind c.args.arg.now) (c.journal_change-r.ensures p is) (c.requires.1 ∙ change_length c.args.lent c.args.kind c.args.arg.now c.requires.0 left) c.put_reply.ensures)
