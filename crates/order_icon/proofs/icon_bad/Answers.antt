-- The numbers read are those of the definition.
use Rattle.std.proofs.Common.{arith}
use Rattle.order.proofs.Pictures.{icon_join, laid_is}
use Rattle.order_icon.proofs.icon_bad.Goals as goal

pub overflow_sub-n : goal.overflow_sub-n
overflow_sub-n c =
    let a = c.args in
    let w = laid_is a.s.now a.at c.requires.p_value in
    omega arith

pub overflow_sub-last : goal.overflow_sub-last
overflow_sub-last c =
    let a = c.args in
    let w = laid_is a.s.now a.at c.requires.p_value in
    omega arith

pub returns : goal.returns
returns c =
    let a = c.args in icon_join a.s.now a.at c.numbers_bad.ensures c.read_u16-entry.ensures c.read_u8-cache.ensures c.read_u8-bits.ensures c.read_u16-width.ensures c.read_u16-height.ensures c.requires.p_value
