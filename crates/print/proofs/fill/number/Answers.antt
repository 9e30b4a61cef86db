-- A number that there is, or 0.
use Rattle.std.proofs.Common.{refl, sym}
use lib.ListN.{get_or-eq_default}
use Rattle.print.proofs.fill.number.Goals as goal

pub returns-then-k-ns : goal.returns-then-k-ns
returns-then-k-ns c = refl

pub returns-else-k-ns : goal.returns-else-k-ns
returns-else-k-ns c = let a = c.args in sym (get_or-eq_default a.ns.now 0 {n = a.k} c.if-k-ns.false)
