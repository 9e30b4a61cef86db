-- The older fields at the start, two pictures behind them, the newer fields, a picture behind these.
use Rattle.std.proofs.Common.{arith}
use Rattle.wire.specs.Parts.{slice}
use Rattle.store.specs.Store.{five}
use Rattle.session.specs.Handing.{HandsOut}
use Rattle.session.specs.declared.LookupTarget.TheVariants.{Window}
use Rattle.session.proofs.Handed.{window_size_lem, window_asks, window_icon, window_big, window_overlay, window_ready, records_handed}
use Rattle.lookups.proofs.window_records.Goals as goal

pub icon_number-small-requires : goal.icon_number-small-requires
unfolding slice
icon_number-small-requires c =
    let Hands : Type 0 = HandsOut (Window c.args.w) c.args.x.now c.args.bodies.now
    (five c.args.a.now c.args.b.now c.args.c.now c.args.d.now c.args.e.now) c.args.journal.now c.args.m.now c.args.out.now in
    let hands : Hands = c.requires in
    ((hands).long, omega arith)

pub overflow_add-big : goal.overflow_add-big
unfolding slice
overflow_add-big c =
    let Hands : Type 0 = HandsOut (Window c.args.w) c.args.x.now c.args.bodies.now
    (five c.args.a.now c.args.b.now c.args.c.now c.args.d.now c.args.e.now) c.args.journal.now c.args.m.now c.args.out.now in
    let hands : Hands = c.requires in
    omega (arith, window_icon (hands) 0 (omega arith) c.icon_number-small.ensures)

pub overflow_add-overlay : goal.overflow_add-overlay
unfolding slice
overflow_add-overlay c =
    let Hands : Type 0 = HandsOut (Window c.args.w) c.args.x.now c.args.bodies.now
    (five c.args.a.now c.args.b.now c.args.c.now c.args.d.now c.args.e.now) c.args.journal.now c.args.m.now c.args.out.now in
    let hands : Hands = c.requires in
    omega (arith, window_icon (hands) 0 (omega arith) c.icon_number-small.ensures)

pub slice_bounds-origins-start : goal.slice_bounds-origins-start
unfolding slice
slice_bounds-origins-start c =
    let Hands : Type 0 = HandsOut (Window c.args.w) c.args.x.now c.args.bodies.now
    (five c.args.a.now c.args.b.now c.args.c.now c.args.d.now c.args.e.now) c.args.journal.now c.args.m.now c.args.out.now in
    let hands : Hands = c.requires in
    omega (arith, window_size_lem (hands))

pub slice_bounds-origins-end : goal.slice_bounds-origins-end
unfolding slice
slice_bounds-origins-end c =
    let Hands : Type 0 = HandsOut (Window c.args.w) c.args.x.now c.args.bodies.now
    (five c.args.a.now c.args.b.now c.args.c.now c.args.d.now c.args.e.now) c.args.journal.now c.args.m.now c.args.out.now in
    let hands : Hands = c.requires in
    omega (arith, window_size_lem (hands))

pub slice_bounds-slot-start : goal.slice_bounds-slot-start
unfolding slice
slice_bounds-slot-start c =
    let Hands : Type 0 = HandsOut (Window c.args.w) c.args.x.now c.args.bodies.now
    (five c.args.a.now c.args.b.now c.args.c.now c.args.d.now c.args.e.now) c.args.journal.now c.args.m.now c.args.out.now in
    let hands : Hands = c.requires in
    omega (arith, window_size_lem (hands))

pub slice_bounds-slot-end : goal.slice_bounds-slot-end
unfolding slice
slice_bounds-slot-end c =
    let Hands : Type 0 = HandsOut (Window c.args.w) c.args.x.now c.args.bodies.now
    (five c.args.a.now c.args.b.now c.args.c.now c.args.d.now c.args.e.now) c.args.journal.now c.args.m.now c.args.out.now in
    let hands : Hands = c.requires in
    omega (arith, window_size_lem (hands))

pub window-requires : goal.window-requires
unfolding slice
window-requires c =
    let Hands : Type 0 = HandsOut (Window c.args.w) c.args.x.now c.args.bodies.now
    (five c.args.a.now c.args.b.now c.args.c.now c.args.d.now c.args.e.now) c.args.journal.now c.args.m.now c.args.out.now in
    let hands : Hands = c.requires in
    let all = window_asks (hands) in
    record { window_size_in_bounds = all.0; slot_value = all.1 }

pub picture-requires : goal.picture-requires
unfolding slice
picture-requires c =
    let Hands : Type 0 = HandsOut (Window c.args.w) c.args.x.now c.args.bodies.now
    (five c.args.a.now c.args.b.now c.args.c.now c.args.d.now c.args.e.now) c.args.journal.now c.args.m.now c.args.out.now in
    let hands : Hands = c.requires in
    let h = hands in
    record {
      picture_size_in_bounds = (omega (arith, h.room, c.window.auto.out), omega (arith, h.room, c.window.auto.out), window_icon h 0 (omega arith) c.icon_number-small.ensures);
      ready = window_ready h;
    }

pub picture-requires-2 : goal.picture-requires-2
unfolding slice
picture-requires-2 c =
    let Hands : Type 0 = HandsOut (Window c.args.w) c.args.x.now c.args.bodies.now
    (five c.args.a.now c.args.b.now c.args.c.now c.args.d.now c.args.e.now) c.args.journal.now c.args.m.now c.args.out.now in
    let hands : Hands = c.requires in
    let h = hands in
    record {
      picture_size_in_bounds = (omega (arith, h.room, c.window.auto.out, c.picture.auto.out), omega (arith, h.room, c.window.auto.out, c.picture.auto.out), window_icon h 1 (omega arith) (window_big h c.icon_number-small.ensures));
      ready = window_ready h;
    }

pub newer-requires : goal.newer-requires
unfolding slice
newer-requires c =
    let Hands : Type 0 = HandsOut (Window c.args.w) c.args.x.now c.args.bodies.now
    (five c.args.a.now c.args.b.now c.args.c.now c.args.d.now c.args.e.now) c.args.journal.now c.args.m.now c.args.out.now in
    let hands : Hands = c.requires in
    let h = hands in
    let w = window_asks h in
    record {
      newer_size_in_bounds = (omega (arith, h.room, c.window.auto.out, c.picture.auto.out, c.picture-2.auto.out), w.0.1);
      slot_value = w.1;
    }

pub picture-requires-3 : goal.picture-requires-3
unfolding slice
picture-requires-3 c =
    let Hands : Type 0 = HandsOut (Window c.args.w) c.args.x.now c.args.bodies.now
    (five c.args.a.now c.args.b.now c.args.c.now c.args.d.now c.args.e.now) c.args.journal.now c.args.m.now c.args.out.now in
    let hands : Hands = c.requires in
    let h = hands in
    record {
      picture_size_in_bounds = (omega (arith, h.room, c.window.auto.out, c.picture.auto.out, c.picture-2.auto.out, c.newer.auto.out), omega (arith, h.room, c.window.auto.out, c.picture.auto.out, c.picture-2.auto.out, c.newer.auto.out), window_icon h 2 (omega arith) (window_overlay h c.icon_number-small.ensures));
      ready = window_ready h;
    }

pub shape_of-out : goal.shape_of-out
unfolding slice
shape_of-out c =
    omega (arith, c.window.auto.out, c.picture.auto.out, c.picture-2.auto.out, c.newer.auto.out, c.picture-3.auto.out)

pub returns : goal.returns
unfolding slice
returns c =
    let Hands : Type 0 = HandsOut (Window c.args.w) c.args.x.now c.args.bodies.now
    (five c.args.a.now c.args.b.now c.args.c.now c.args.d.now c.args.e.now) c.args.journal.now c.args.m.now c.args.out.now in
    let hands : Hands = c.requires in
    let h = hands in
    records_handed h c.icon_number-small.ensures (window_big h c.icon_number-small.ensures) (window_overlay h c.icon_number-small.ensures) c.window.ensures c.picture.ensures c.picture-2.ensures c.newer.ensures c.picture-3.ensures
