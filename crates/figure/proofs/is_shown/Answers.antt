-- `is_shown`: the byte is the used mark, and the part lent to `shows` is the window's slot. Assumes nothing.
use Rattle.std.proofs.Common.{◌*◌, ◌+◌, ◌-◌, arith, refl}
use Rattle.figure.proofs.FigureSums.{unused, shown_is}
use Rattle.figure.proofs.is_shown.Goals as goal

pub returns-then-index-i-ne1 : goal.returns-then-index-i-ne1
returns-then-index-i-ne1 c = let a = c.args in unused a.index.now a.bodies.now a.i c.if-index-i-ne1.true

pub returns : goal.returns
returns c =
    let a = c.args in
    shown_is a.index.now a.bodies.now a.i (1392 * a.i) (1392 * a.i + 1392 - 1392 * a.i) c.requires.0 refl (omega arith) c.if-index-i-ne1.false c.shows.ensures
