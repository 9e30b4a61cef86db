-- Three bytes are left, or the number that is cut is told.
use Rattle.std.proofs.Common.{◌-◌, arith, length}
use Rattle.order.proofs.Pictures.{head_within, cached_ends, cached_short}
use Rattle.order_icon.proofs.cached_fit.Goals as goal

pub returns-then-a-ge-CACHED_LENGTH : goal.returns-then-a-ge-CACHED_LENGTH
returns-then-a-ge-CACHED_LENGTH c =
    let a = c.args in cached_ends a.s.now a.at a.bad c.if-a-ge-CACHED_LENGTH.true c.cached_bad-more.ensures c.first_bad-b.ensures

pub overflow_add-result-2 : goal.overflow_add-result-2
overflow_add-result-2 c = let a = c.args in omega (arith, c.head_cut-n.ensures, head_within (length a.s.now - a.at))

pub returns : goal.returns
returns c = let a = c.args in cached_short a.s.now a.at a.bad c.if-a-ge-CACHED_LENGTH.false c.head_cut-n.ensures
