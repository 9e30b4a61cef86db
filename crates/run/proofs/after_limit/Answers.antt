-- Where the limit is cut, nothing follows it.
use Rattle.run.proofs.Calls.{after_short}
use Rattle.run.proofs.after_limit.Goals as goal

pub returns-then-arg-lt-LIMIT : goal.returns-then-arg-lt-LIMIT
returns-then-arg-lt-LIMIT c = after_short c.args.arg.now c.if-arg-lt-LIMIT.true
