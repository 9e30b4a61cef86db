-- By cases: a slot of windows, or one after them.
use Rattle.body.proofs.Slots.{start_window, start_other}
use Rattle.body.proofs.start.Goals as goal

pub returns-then-k-lt-WINDOWS : goal.returns-then-k-lt-WINDOWS
returns-then-k-lt-WINDOWS c = start_window c.args.k c.if-k-lt-WINDOWS.true

pub returns : goal.returns
returns c = start_other c.args.k c.if-k-lt-WINDOWS.false c.requires
