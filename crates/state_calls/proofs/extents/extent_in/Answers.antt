-- The extent in the one store that these parts are.
use Rattle.std.proofs.Common.{sym}
use Rattle.store.specs.Store.{five}
use Rattle.state_calls.proofs.extents.extent_in.Goals as goal

pub returns : goal.returns
returns c =
    let u = c.args in
    c.extent.ensures (five u.a.now u.b.now u.c.now u.d.now u.e.now) (sym c.places-lent.ensures)
