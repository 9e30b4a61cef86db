-- Row by row: the function's start, and what is put after each row.
use Rattle.std.proofs.Common.{arith, refl}
use Rattle.body.proofs.Ways.{placed_none, placed_next}
use Rattle.body.specs.Stores.{Placed}
use Rattle.body_store.proofs.put_content_to_size.Goals as goal

pub put-p-requires : goal.put-p-requires
put-p-requires c =
    record {
      k_bound = (omega arith, c.requires.le_at.0, c.requires.le_at.1, omega (arith, c.requires.le_at.2));
      ends_well = c.requires.ends_well;
    }

pub put-p-requires-2 : goal.put-p-requires-2
put-p-requires-2 c =
    let placed1 : Placed 9 569 10 570 c.args.flags c.args.s.now c.args.at c.args.slot.now c.put-p.result c.put-p.new.slot = placed_next (placed_none 9 569 c.args.flags c.args.s.now c.args.at c.args.slot.now c.requires.le_at.0 c.requires.le_at.1 c.requires.ends_well) c.put-p.ensures c.put-p.auto.slot in
    let d = placed1 in record {
      k_bound = (omega arith, d.low, d.within, omega (arith, d.same, c.requires.le_at.2));
      ends_well = d.well;
    }

pub put-p-requires-3 : goal.put-p-requires-3
put-p-requires-3 c =
    let placed1 : Placed 9 569 10 570 c.args.flags c.args.s.now c.args.at c.args.slot.now c.put-p.result c.put-p.new.slot = placed_next (placed_none 9 569 c.args.flags c.args.s.now c.args.at c.args.slot.now c.requires.le_at.0 c.requires.le_at.1 c.requires.ends_well) c.put-p.ensures c.put-p.auto.slot in
    let placed2 : Placed 9 569 11 574 c.args.flags c.args.s.now c.args.at c.args.slot.now c.put-p-2.result c.put-p-2.new.slot = placed_next (placed1) c.put-p-2.ensures c.put-p-2.auto.slot in
    let d = placed2 in record {
      k_bound = (omega arith, d.low, d.within, omega (arith, d.same, c.requires.le_at.2));
      ends_well = d.well;
    }

pub put-p-requires-4 : goal.put-p-requires-4
put-p-requires-4 c =
    let placed1 : Placed 9 569 10 570 c.args.flags c.args.s.now c.args.at c.args.slot.now c.put-p.result c.put-p.new.slot = placed_next (placed_none 9 569 c.args.flags c.args.s.now c.args.at c.args.slot.now c.requires.le_at.0 c.requires.le_at.1 c.requires.ends_well) c.put-p.ensures c.put-p.auto.slot in
    let placed2 : Placed 9 569 11 574 c.args.flags c.args.s.now c.args.at c.args.slot.now c.put-p-2.result c.put-p-2.new.slot = placed_next (placed1) c.put-p-2.ensures c.put-p-2.auto.slot in
    let placed3 : Placed 9 569 12 582 c.args.flags c.args.s.now c.args.at c.args.slot.now c.put-p-3.result c.put-p-3.new.slot = placed_next (placed2) c.put-p-3.ensures c.put-p-3.auto.slot in
    let d = placed3 in record {
      k_bound = (omega arith, d.low, d.within, omega (arith, d.same, c.requires.le_at.2));
      ends_well = d.well;
    }

pub put-requires : goal.put-requires
put-requires c =
    let placed1 : Placed 9 569 10 570 c.args.flags c.args.s.now c.args.at c.args.slot.now c.put-p.result c.put-p.new.slot = placed_next (placed_none 9 569 c.args.flags c.args.s.now c.args.at c.args.slot.now c.requires.le_at.0 c.requires.le_at.1 c.requires.ends_well) c.put-p.ensures c.put-p.auto.slot in
    let placed2 : Placed 9 569 11 574 c.args.flags c.args.s.now c.args.at c.args.slot.now c.put-p-2.result c.put-p-2.new.slot = placed_next (placed1) c.put-p-2.ensures c.put-p-2.auto.slot in
    let placed3 : Placed 9 569 12 582 c.args.flags c.args.s.now c.args.at c.args.slot.now c.put-p-3.result c.put-p-3.new.slot = placed_next (placed2) c.put-p-3.ensures c.put-p-3.auto.slot in
    let placed4 : Placed 9 569 13 590 c.args.flags c.args.s.now c.args.at c.args.slot.now c.put-p-4.result c.put-p-4.new.slot = placed_next (placed3) c.put-p-4.ensures c.put-p-4.auto.slot in
    let d = placed4 in record {
      k_bound = (omega arith, d.low, d.within, omega (arith, d.same, c.requires.le_at.2));
      ends_well = d.well;
    }

pub shape_of-slot : goal.shape_of-slot
shape_of-slot c =
    let placed1 : Placed 9 569 10 570 c.args.flags c.args.s.now c.args.at c.args.slot.now c.put-p.result c.put-p.new.slot = placed_next (placed_none 9 569 c.args.flags c.args.s.now c.args.at c.args.slot.now c.requires.le_at.0 c.requires.le_at.1 c.requires.ends_well) c.put-p.ensures c.put-p.auto.slot in
    let placed2 : Placed 9 569 11 574 c.args.flags c.args.s.now c.args.at c.args.slot.now c.put-p-2.result c.put-p-2.new.slot = placed_next (placed1) c.put-p-2.ensures c.put-p-2.auto.slot in
    let placed3 : Placed 9 569 12 582 c.args.flags c.args.s.now c.args.at c.args.slot.now c.put-p-3.result c.put-p-3.new.slot = placed_next (placed2) c.put-p-3.ensures c.put-p-3.auto.slot in
    let placed4 : Placed 9 569 13 590 c.args.flags c.args.s.now c.args.at c.args.slot.now c.put-p-4.result c.put-p-4.new.slot = placed_next (placed3) c.put-p-4.ensures c.put-p-4.auto.slot in
    let placed5 : Placed 9 569 14 598 c.args.flags c.args.s.now c.args.at c.args.slot.now c.put.result c.put.new.slot = placed_next (placed4) c.put.ensures c.put.auto.slot in
    (placed5).same

pub returns : goal.returns
returns c =
    let placed1 : Placed 9 569 10 570 c.args.flags c.args.s.now c.args.at c.args.slot.now c.put-p.result c.put-p.new.slot = placed_next (placed_none 9 569 c.args.flags c.args.s.now c.args.at c.args.slot.now c.requires.le_at.0 c.requires.le_at.1 c.requires.ends_well) c.put-p.ensures c.put-p.auto.slot in
    let placed2 : Placed 9 569 11 574 c.args.flags c.args.s.now c.args.at c.args.slot.now c.put-p-2.result c.put-p-2.new.slot = placed_next (placed1) c.put-p-2.ensures c.put-p-2.auto.slot in
    let placed3 : Placed 9 569 12 582 c.args.flags c.args.s.now c.args.at c.args.slot.now c.put-p-3.result c.put-p-3.new.slot = placed_next (placed2) c.put-p-3.ensures c.put-p-3.auto.slot in
    let placed4 : Placed 9 569 13 590 c.args.flags c.args.s.now c.args.at c.args.slot.now c.put-p-4.result c.put-p-4.new.slot = placed_next (placed3) c.put-p-4.ensures c.put-p-4.auto.slot in
    let placed5 : Placed 9 569 14 598 c.args.flags c.args.s.now c.args.at c.args.slot.now c.put.result c.put.new.slot = placed_next (placed4) c.put.ensures c.put.auto.slot in
    placed5
