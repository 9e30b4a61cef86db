-- 0 is no start, any other number is one.
use Rattle.std.proofs.Common.{eq-eqb, ne_eqb}
use Rattle.pdu_read.proofs.start_number.Goals as goal

pub returns-then-n-eq0 : goal.returns-then-n-eq0
returns-then-n-eq0 c = rw (eq-eqb c.args.n 0 c.if-n-eq0.true)

pub returns : goal.returns
returns c = rw (ne_eqb c.args.n 0 c.if-n-eq0.false)
