-- By the icon's flag.
use Rattle.shown.proofs.StepsCarried.{begins_none, begins_icon}
use Rattle.shown.proofs.begins_at.Goals as goal

pub returns-then-flags-eq0 : goal.returns-then-flags-eq0
returns-then-flags-eq0 c = let a = c.args in begins_none a.s.now a.flags a.icon c.if-flags-eq0.true

pub returns : goal.returns
returns c = let a = c.args in begins_icon a.s.now a.flags a.icon c.if-flags-eq0.false
