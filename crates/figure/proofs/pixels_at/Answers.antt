-- `pixels_at`: the part lent to `single` is the window's list of visibility rectangles, that lent to `pixels` its slot. Assumes nothing.
use Rattle.std.proofs.Common.{◌*◌, ◌+◌, ◌-◌, ◌∙◌, ap, arith, drop, not, refl, rules, sym, take}
use Rattle.area.proofs.Steps.{lists_one}
use Rattle.figure.proofs.FigureSums.{hidden, by_list, visible}
use Rattle.figure.proofs.pixels_at.Goals as goal

pub returns-then-not-shown : goal.returns-then-not-shown
returns-then-not-shown c = hidden c.args.index.now c.args.bodies.now c.args.i c.requires.2 (ap not c.if-not-shown.true)

pub single-requires : goal.single-requires
single-requires c =
    let a = c.args in
    let from = 1392 * a.i + 736 in
    lists_one (take (from + 130 - from) (drop from a.bodies.now)) (sym c.read_u16.ensures ∙ c.if-read_u16-eq1.true) (search rules)

pub returns-then-read_u16-eq1 : goal.returns-then-read_u16-eq1
returns-then-read_u16-eq1 c =
    let a = c.args in
    let from = 1392 * a.i + 736 in
    by_list a.index.now a.bodies.now a.i from (from + 130 - from) c.requires.0 refl (omega arith) c.requires.2 (ap not c.if-not-shown.false) c.single.ensures

pub returns : goal.returns
returns c =
    let a = c.args in
    visible a.index.now a.bodies.now a.i (1392 * a.i) (1392 * a.i + 1392 - 1392 * a.i) c.requires.0 refl (omega arith) c.requires.2 (ap not c.if-not-shown.false) c.pixels.ensures
