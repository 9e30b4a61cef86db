-- The two numbers read.
use Rattle.ids.proofs.TypedTells.{notification_is}
use Rattle.ids.proofs.typed.notification.Goals as goal

pub returns : goal.returns
returns c = notification_is c.args.bytes.now c.args.i c.read_u32-a.ensures c.read_u32-b.ensures
