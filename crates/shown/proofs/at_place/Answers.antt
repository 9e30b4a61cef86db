-- The store's picture where none has come since the mark, else that of the order which brought it.
use Rattle.store.specs.Store.{five}
use Rattle.shown.proofs.ShownHanded.{store_asks, from_store, order_within, from_journal}
use Rattle.shown.proofs.at_place.Goals as goal

pub show-requires : goal.show-requires
show-requires c =
    let a = c.args in
    let r = store_asks a.bodies.now (five a.a.now a.b.now a.c.now a.d.now a.e.now) a.journal.now a.origins.now a.p c.read_u16-q.ensures c.requires.place_ready c.if-q-eq0.true in
    (c.requires.picture_size_in_bounds, r.0, r.1, r.2)

pub returns-then-q-eq0 : goal.returns-then-q-eq0
returns-then-q-eq0 c =
    let a = c.args in
    from_store a.bodies.now (five a.a.now a.b.now a.c.now a.d.now a.e.now) a.journal.now a.origins.now a.p c.read_u16-q.ensures c.if-q-eq0.true a.out.now c.show.ensures

pub slice_bounds-carried-end : goal.slice_bounds-carried-end
slice_bounds-carried-end c =
    let a = c.args in
    order_within a.bodies.now (five a.a.now a.b.now a.c.now a.d.now a.e.now) a.journal.now a.origins.now a.p c.read_u16-q.ensures c.if-q-eq0.false c.read_u16.ensures c.requires.place_ready

pub returns : goal.returns
returns c =
    let a = c.args in
    from_journal a.bodies.now (five a.a.now a.b.now a.c.now a.d.now a.e.now) a.journal.now a.origins.now a.p c.read_u16-q.ensures c.if-q-eq0.false c.read_u16.ensures a.out.now c.carried.ensures
