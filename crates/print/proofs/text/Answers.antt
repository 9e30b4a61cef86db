-- There is room for n bytes of the text, or the place is past the end.
use Rattle.std.proofs.Common.{arith}
use Rattle.print.proofs.Laid.{none_fits, cut_laid}
use Rattle.print.proofs.text.Goals as goal

pub returns-then-out-at : goal.returns-then-out-at
returns-then-out-at c = let a = c.args in none_fits a.out.now a.at a.s.now (omega arith)

pub returns : goal.returns
returns c =
    let a = c.args in cut_laid a.out.now a.at a.s.now _ _ c.if-out-at.false c.least-n.ensures.0 c.copy_part.ensures
