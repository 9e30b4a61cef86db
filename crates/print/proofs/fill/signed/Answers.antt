-- A number that there is, or 0.
use Rattle.std.proofs.Common.{sym}
use lib.ListN.{get_or-eq_default}
use lib.IntN.{pos}
use Rattle.print.proofs.Signs.{read_back}
use Rattle.print.proofs.fill.signed.Goals as goal

pub returns-then-k-zs : goal.returns-then-k-zs
returns-then-k-zs c = read_back _ c.result-1.given

pub returns-else-k-zs : goal.returns-else-k-zs
returns-else-k-zs c = let a = c.args in sym (get_or-eq_default a.zs.now (pos 0) {n = a.k} c.if-k-zs.false)
