-- An order without a picture changes its slot alone. Of the others each way makes the plan's change and carries it out, or refuses as the
-- plan does.
use Rattle.std.proofs.Common.{arith}
use Rattle.slots.proofs.Ways.{sound_long, sound_holders}
use Rattle.index.proofs.PlansMade.{in_lacks, in_plain, in_full, in_taken, place_small, with_fits}
use Rattle.index.proofs.StepsOfPlans.{steps_as, steps_refused, slot_steps}
use Rattle.index_step.proofs.at.Goals as goal

pub slot-requires : goal.slot-requires
slot-requires c = (sound_long c.args.index.now c.requires.0, c.requires.1, c.requires.2)

pub returns-then-o-eq0 : goal.returns-then-o-eq0
returns-then-o-eq0 c =
    let a = c.args in
    slot_steps a.full a.index.now a.o a.i a.s.now c.if-o-eq0.true c.slot.ensures

pub lacks_picture-requires : goal.lacks_picture-requires
lacks_picture-requires c = sound_long c.args.index.now c.requires.0

pub returns-then-lacks_picture : goal.returns-then-lacks_picture
returns-then-lacks_picture c =
    let a = c.args in
    steps_refused a.full a.index.now (λ e. omega (arith, e)) c.no_slot.ensures
    (in_lacks a.index.now a.s.now a.o a.i c.cell-c.ensures.0 c.lacks_picture.ensures c.if-lacks_picture.true)

pub carry_out-requires : goal.carry_out-requires
carry_out-requires c =
    let a = c.args in
    (sound_long a.index.now c.requires.0, with_fits a.o a.i c.beside-beside.result c.pointer_of-pointer.result 0 c.change_at.ensures c.requires.1 c.beside-beside.ensures.1 c.pointer_of-pointer.ensures.1 (omega arith))

pub returns-then-o-eq0-2 : goal.returns-then-o-eq0-2
returns-then-o-eq0-2 c =
    let a = c.args in
    steps_as a.full a.index.now
    (in_plain a.index.now a.s.now a.o a.i c.cell-c.ensures.0 c.lacks_picture.ensures c.if-lacks_picture.false c.pointer_of-pointer.ensures.0 c.beside-beside.ensures.0
    c.if-o-eq0-2.true c.change_at.ensures) c.carry_out.ensures

pub free_place_from-requires : goal.free_place_from-requires
free_place_from-requires c =
    record {
      bytes_value = (sound_holders c.args.index.now c.requires.0, c.beside-beside.ensures.1, c.pointer_of-pointer.ensures.1);
      held_below = c.requires.3;
    }

pub returns-in_default : goal.returns-in_default
returns-in_default c =
    let a = c.args in
    steps_refused a.full a.index.now (λ e. omega (arith, e)) c.no_slot-in_default.ensures
    (in_full a.index.now a.s.now a.o a.i c.cell-c.ensures.0 c.lacks_picture.ensures c.if-lacks_picture.false c.pointer_of-pointer.ensures.0 c.beside-beside.ensures.0
    c.if-o-eq0-2.false c.free_place_from.ensures c.in_default.is)

pub carry_out-requires-2 : goal.carry_out-requires-2
carry_out-requires-2 c =
    let a = c.args in
    let x = a.index.now in
    let held = c.beside-beside.result in
    let pointer = c.pointer_of-pointer.result in (
      sound_long x c.requires.0,
      with_fits a.o a.i held pointer c.in-Some.p c.change_at-2.ensures c.requires.1 c.beside-beside.ensures.1 c.pointer_of-pointer.ensures.1
          (place_small x held pointer c.requires.0 c.free_place_from.ensures c.in-Some.is),
    )

pub returns : goal.returns
returns c =
    let a = c.args in
    steps_as a.full a.index.now
    (in_taken a.index.now a.s.now a.o a.i c.cell-c.ensures.0 c.lacks_picture.ensures c.if-lacks_picture.false c.pointer_of-pointer.ensures.0 c.beside-beside.ensures.0
    c.if-o-eq0-2.false c.free_place_from.ensures c.in-Some.is c.change_at-2.ensures) c.carry_out-2.ensures
