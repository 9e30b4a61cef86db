-- The slot's own bytes are lent and tested.
use Rattle.std.proofs.Common.{◌*◌, ◌+◌, ◌-◌, arith, refl}
use Rattle.table.proofs.Ways.{window_lent}
use Rattle.table_sound.proofs.window_ok.Goals as goal

pub returns : goal.returns
returns c =
    let a = c.args in
    window_lent a.bodies.now a.i (1392 * a.i) (1392 * a.i + 1392 - 1392 * a.i) c.requires.1 refl (omega arith) c.window_sound.ensures
