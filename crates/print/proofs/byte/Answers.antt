-- There is room for the byte, or nothing is laid.
use Rattle.std.proofs.Common.{◌∷◌, []}
use Rattle.print.proofs.Laid.{none_fits, byte_laid}
use Rattle.print.proofs.byte.Goals as goal

pub returns-then-at-out : goal.returns-then-at-out
returns-then-at-out c = let a = c.args in byte_laid a.out.now a.at a.b c.if-at-out.true

pub returns : goal.returns
returns c = let a = c.args in none_fits a.out.now a.at (a.b ∷ []) c.if-at-out.false
