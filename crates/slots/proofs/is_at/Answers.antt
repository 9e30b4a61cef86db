-- The slot's own bytes tell what the index does.
use Rattle.std.proofs.Common.{◌*◌, ◌+◌, ◌-◌, arith, refl}
use Rattle.slots.proofs.Ways.{slot_lent}
use Rattle.slots.proofs.is_at.Goals as goal

pub returns : goal.returns
returns c =
    let a = c.args in
    let base = 157 + 9 * a.i in
    slot_lent a.index.now a.a a.b a.i base (base + 9 - base) refl (omega arith) c.has_ids.ensures
