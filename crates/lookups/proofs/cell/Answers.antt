-- The picture that it shows.
use Rattle.std.proofs.Common.{arith}
use Rattle.wire.specs.Parts.{slice}
use Rattle.store.specs.Store.{five}
use Rattle.session.specs.Handing.{HandsOut}
use Rattle.session.specs.declared.LookupTarget.TheVariants.{Cell}
use Rattle.session.proofs.Handed.{cell_size, cell_number_in, cell_ready, cell_handed}
use Rattle.lookups.proofs.cell.Goals as goal

pub slice_bounds-origins-start : goal.slice_bounds-origins-start
unfolding slice
slice_bounds-origins-start c =
    let Hands : Type 0 = HandsOut (Cell c.args.cache c.args.entry) c.args.x.now c.args.bodies.now
    (five c.args.a.now c.args.b.now c.args.c.now c.args.d.now c.args.e.now) c.args.journal.now c.args.m.now c.args.out.now in
    let hands : Hands = c.requires in
    omega (arith, cell_size (hands))

pub slice_bounds-origins-end : goal.slice_bounds-origins-end
unfolding slice
slice_bounds-origins-end c =
    let Hands : Type 0 = HandsOut (Cell c.args.cache c.args.entry) c.args.x.now c.args.bodies.now
    (five c.args.a.now c.args.b.now c.args.c.now c.args.d.now c.args.e.now) c.args.journal.now c.args.m.now c.args.out.now in
    let hands : Hands = c.requires in
    omega (arith, cell_size (hands))

pub holder-requires : goal.holder-requires
unfolding slice
holder-requires c =
    let Hands : Type 0 = HandsOut (Cell c.args.cache c.args.entry) c.args.x.now c.args.bodies.now
    (five c.args.a.now c.args.b.now c.args.c.now c.args.d.now c.args.e.now) c.args.journal.now c.args.m.now c.args.out.now in
    let hands : Hands = c.requires in
    let h = hands in record {
      picture_size_in_bounds = (h.room, cell_number_in h c.cell_number-h.ensures);
      ready = cell_ready h;
    }

pub returns : goal.returns
unfolding slice
returns c =
    let Hands : Type 0 = HandsOut (Cell c.args.cache c.args.entry) c.args.x.now c.args.bodies.now
    (five c.args.a.now c.args.b.now c.args.c.now c.args.d.now c.args.e.now) c.args.journal.now c.args.m.now c.args.out.now in
    let hands : Hands = c.requires in
    cell_handed (hands) c.cell_number-h.ensures c.holder.ensures.out_after
