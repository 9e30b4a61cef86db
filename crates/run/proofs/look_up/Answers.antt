-- The output is cleared, the lookup is lent what follows the first four bytes, and its reply is put there.
use Rattle.session.specs.Calls.{look}
use Rattle.run.proofs.Calls.{handed_block}
use Rattle.run.proofs.look_up.Goals as goal

pub returns : goal.returns
returns c =
    handed_block (look c.args.target) c.args.out.now _ _ c.requires c.clear.ensures c.look-r.ensures c.put_reply.ensures
