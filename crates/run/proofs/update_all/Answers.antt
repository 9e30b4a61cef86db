-- The update is what follows the limit.
use Rattle.run.proofs.Calls.{update_block}
use Rattle.run.proofs.update_all.Goals as goal

pub returns : goal.returns
returns c p is =
    update_block c.args.arg.now c.after_limit-start.result c.read_u32-limit.ensures c.after_limit-start.ensures.1 (c.update-r.ensures p is) c.put_report.ensures
