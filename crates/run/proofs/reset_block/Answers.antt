-- The call's own outcome, its reply packed.
use Rattle.std.proofs.Common.{refl}
use Rattle.session.specs.Calls.{reset}
use Rattle.run.proofs.Calls.{reply_block}
use Rattle.run.proofs.reset_block.Goals as goal

pub returns : goal.returns
returns c p is = reply_block (reset c.args.lent) c.args.out.now refl (c.reset-r.ensures p is) c.requires c.put_reply.ensures
