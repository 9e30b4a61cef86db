-- `single`: no rectangle stands before the first, so that all between its sides is the area. Assumes nothing.
use Rattle.std.proofs.Common.{◌*◌, ◌-◌, arith}
use Rattle.area.specs.Area.{area_of}
use Rattle.area.proofs.Steps.{Points, one_listed, alone_between}
use Rattle.area.proofs.single.Goals as goal

pub rect_at-q-requires : goal.rect_at-q-requires
rect_at-q-requires c = one_listed c.args.s.now c.requires

pub overflow_mul-result : goal.overflow_mul-result
overflow_mul-result c =
    let between : Points ((c.larger.result - c.rect_at-q.result.left) * (c.larger-2.result - c.rect_at-q.result.top)) (area_of c.args.s.now) = alone_between c.args.s.now c.requires c.rect_at-q.ensures (omega (arith, c.struct_known-2-1.given)) (omega (arith, c.struct_known-2-1.given)) c.larger.ensures c.larger-2.ensures in
    omega (arith, (between).1)

pub returns : goal.returns
returns c =
    let between : Points ((c.larger.result - c.rect_at-q.result.left) * (c.larger-2.result - c.rect_at-q.result.top)) (area_of c.args.s.now) = alone_between c.args.s.now c.requires c.rect_at-q.ensures (omega (arith, c.struct_known-2-1.given)) (omega (arith, c.struct_known-2-1.given)) c.larger.ensures c.larger-2.ensures in
    between
