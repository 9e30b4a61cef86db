-- The entry of a body that a granted record has; none where it is refused, or past the last.
use Rattle.std.proofs.Common.{arith}
use Rattle.record.proofs.Handing.{place_refused, place_past, entry_fits, place_at_lem}
use Rattle.record.proofs.place.Goals as goal

pub returns-in_default : goal.returns-in_default
returns-in_default c = place_refused _ _ _ c.in_default.ensures

pub returns-then-contents-i : goal.returns-then-contents-i
returns-then-contents-i c = place_past _ _ c.in-Ok.ensures _ c.if-contents-i.true

pub overflow_mul-at : goal.overflow_mul-at
overflow_mul-at c = omega (arith, entry_fits _ _ c.in-Ok.ensures _ c.if-contents-i.false)

pub overflow_add-at : goal.overflow_add-at
overflow_add-at c = omega (arith, entry_fits _ _ c.in-Ok.ensures _ c.if-contents-i.false)

pub overflow_add-at-2 : goal.overflow_add-at-2
overflow_add-at-2 c = omega (arith, entry_fits _ _ c.in-Ok.ensures _ c.if-contents-i.false)

pub returns : goal.returns
returns c = place_at_lem _ _ c.in-Ok.ensures _ c.if-contents-i.false c.read_u32-offset.ensures c.read_u32-size.ensures
