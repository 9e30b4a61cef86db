-- The count, and four numbers for each rectangle, as many as the place has.
use Rattle.std.proofs.Common.{◌*◌, arith, rules}
use Rattle.view.proofs.ViewsRead.{least_is, rectangles_is}
use Rattle.view.proofs.parts.rectangles.Goals as goal

pub put_sides-requires : goal.put_sides-requires
put_sides-requires c =
    let l = least_is (4 * c.read_u16-count.result) 64 c.least-n.ensures in
    (search rules, omega (arith, l.right), search rules)

pub returns : goal.returns
returns c = rectangles_is c.args.s.now c.args.at c.read_u16-count.ensures c.least-n.ensures c.put_sides.ensures
