-- The pixels of the window that m holds stand behind its records.
use Rattle.std.proofs.Common.{arith}
use Rattle.wire.specs.Parts.{slice}
use Rattle.store.specs.Store.{five}
use Rattle.session.specs.declared.LookupTarget.TheVariants.{Window}
use Rattle.session.specs.Handing.{HandsOut}
use Rattle.session.proofs.Handed.{window_size_lem, window_asks}
use Rattle.session.proofs.HandedFigures.{window_handed}
use Rattle.lookups.proofs.window.Goals as goal

pub window_records-requires : goal.window_records-requires
unfolding slice
window_records-requires c =
    let Hands : Type 0 = HandsOut (Window c.args.w) c.args.x.now c.args.bodies.now
    (five c.args.a.now c.args.b.now c.args.c.now c.args.d.now c.args.e.now) c.args.journal.now c.args.m.now c.args.out.now in
    let hands : Hands = c.requires in
    hands

pub slice_bounds-pixels-end : goal.slice_bounds-pixels-end
unfolding slice
slice_bounds-pixels-end c =
    let Hands : Type 0 = HandsOut (Window c.args.w) c.args.x.now c.args.bodies.now
    (five c.args.a.now c.args.b.now c.args.c.now c.args.d.now c.args.e.now) c.args.journal.now c.args.m.now c.args.out.now in
    let hands : Hands = c.requires in
    omega (arith, window_size_lem (hands))

pub pixels-pixels-requires : goal.pixels-pixels-requires
unfolding slice
pixels-pixels-requires c =
    let Hands : Type 0 = HandsOut (Window c.args.w) c.args.x.now c.args.bodies.now
    (five c.args.a.now c.args.b.now c.args.c.now c.args.d.now c.args.e.now) c.args.journal.now c.args.m.now c.args.out.now in
    let hands : Hands = c.requires in
    omega (arith, (window_asks (hands)).0.1)

pub write_u32-requires : goal.write_u32-requires
unfolding slice
write_u32-requires c =
    let Hands : Type 0 = HandsOut (Window c.args.w) c.args.x.now c.args.bodies.now
    (five c.args.a.now c.args.b.now c.args.c.now c.args.d.now c.args.e.now) c.args.journal.now c.args.m.now c.args.out.now in
    let hands : Hands = c.requires in
    omega (arith, (hands).room, c.window_records.auto.out)

pub returns : goal.returns
unfolding slice
returns c =
    let Hands : Type 0 = HandsOut (Window c.args.w) c.args.x.now c.args.bodies.now
    (five c.args.a.now c.args.b.now c.args.c.now c.args.d.now c.args.e.now) c.args.journal.now c.args.m.now c.args.out.now in
    let hands : Hands = c.requires in
    window_handed (hands) c.window_records.ensures c.pixels-pixels.ensures.0 c.write_u32.ensures
