-- The first free place, as the plan has it: nothing is deleted or listed, and no cell is asked for.
use Rattle.std.proofs.Common.{◌<◌, arith}
use Rattle.slots.proofs.Ways.{sound_long, sound_holders}
use Rattle.index.proofs.PlansMade.{place_small}
use Rattle.index.proofs.StepsOfPlans.{take_none, take_full, take_done}
use Rattle.index_step.proofs.take_at.Goals as goal

pub free_place_from-requires : goal.free_place_from-requires
free_place_from-requires c =
    record {
      bytes_value = (sound_holders c.args.index.now c.requires.0, c.beside-beside.ensures.1, c.pointer_of-pointer.ensures.1);
      held_below = c.requires.4;
    }

pub returns-in_default : goal.returns-in_default
returns-in_default c =
    let a = c.args in
    take_none a.full a.index.now a.s.now a.o a.i c.requires.3 c.cell-c.ensures.0 c.pointer_of-pointer.ensures.0 c.beside-beside.ensures.0 c.free_place_from.ensures
    c.in_default.is c.no_slot.ensures

pub returns-then-full : goal.returns-then-full
returns-then-full c =
    let a = c.args in
    take_full a.full a.index.now a.s.now a.o a.i c.requires.3 c.cell-c.ensures.0 c.pointer_of-pointer.ensures.0 c.beside-beside.ensures.0 c.free_place_from.ensures
    c.in-Some.is c.if-full.true

pub take_at-requires : goal.take_at-requires
take_at-requires c =
    let small : c.in-Some.p < 64 = place_small c.args.index.now c.beside-beside.result c.pointer_of-pointer.result c.requires.0 c.free_place_from.ensures c.in-Some.is in
    let long = sound_long c.args.index.now c.requires.0 in
    (omega (arith, long), c.beside-beside.ensures.1, c.pointer_of-pointer.ensures.1, small)

pub overflow_add-result : goal.overflow_add-result
overflow_add-result c =
    let small : c.in-Some.p < 64 = place_small c.args.index.now c.beside-beside.result c.pointer_of-pointer.result c.requires.0 c.free_place_from.ensures c.in-Some.is in
    record { fits = omega (arith, small) }

pub overflow_cast-result : goal.overflow_cast-result
overflow_cast-result c =
    let small : c.in-Some.p < 64 = place_small c.args.index.now c.beside-beside.result c.pointer_of-pointer.result c.requires.0 c.free_place_from.ensures c.in-Some.is in
    record { fits = omega (arith, small) }

pub returns : goal.returns
returns c =
    let a = c.args in
    take_done a.full a.index.now a.s.now a.o a.i c.requires.3 c.cell-c.ensures.0 c.pointer_of-pointer.ensures.0 c.beside-beside.ensures.0 c.free_place_from.ensures
    c.in-Some.is c.if-full.false c.requires.2 c.take_at.ensures
