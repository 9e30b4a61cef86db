-- The test of the code is that of the definition.
use Rattle.std.proofs.Common.{eq-eqb, ne_eqb, rules}
use Rattle.print.specs.Templates.{next_after}
use Rattle.print.proofs.fill.after.Goals as goal

pub returns-then-b-mark : goal.returns-then-b-mark
unfolding next_after
returns-then-b-mark c = let a = c.args in (rw (eq-eqb a.b a.mark c.if-b-mark.true), search rules)

pub returns-else-b-mark : goal.returns-else-b-mark
unfolding next_after
returns-else-b-mark c = let a = c.args in (rw (ne_eqb a.b a.mark c.if-b-mark.false), search rules)
