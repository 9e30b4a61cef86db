-- The first entry has no byte in front of it.
use Rattle.print.proofs.Laid.{first_entry, later_entry}
use Rattle.print.proofs.parting.Goals as goal

pub returns-then-i-eq0 : goal.returns-then-i-eq0
returns-then-i-eq0 c = let a = c.args in first_entry a.out.now a.at a.part c.if-i-eq0.true

pub returns : goal.returns
returns c = later_entry c.if-i-eq0.false c.byte.ensures
