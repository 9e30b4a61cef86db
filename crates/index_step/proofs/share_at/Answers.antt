-- The pointer takes its cell's place, as the plan's change has it: nothing is deleted or listed.
use Rattle.std.proofs.Common.{arith}
use Rattle.slots.proofs.Ways.{sound_long}
use Rattle.index.proofs.PlansMade.{in_lacks}
use Rattle.index.proofs.StepsOfPlans.{steps_refused, share_full, share_done}
use Rattle.index_step.proofs.share_at.Goals as goal

pub lacks_picture-requires : goal.lacks_picture-requires
lacks_picture-requires c = sound_long c.args.index.now c.requires.0

pub returns-then-lacks_picture : goal.returns-then-lacks_picture
returns-then-lacks_picture c =
    let a = c.args in
    steps_refused a.full a.index.now (λ e. omega (arith, e)) c.no_slot.ensures
    (in_lacks a.index.now a.s.now a.o a.i c.cell-c.ensures.0 c.lacks_picture.ensures c.if-lacks_picture.true)

pub returns-then-full : goal.returns-then-full
returns-then-full c =
    let a = c.args in
    share_full a.full a.index.now a.s.now a.o a.i c.requires.3 c.cell-c.ensures.0 c.lacks_picture.ensures c.if-lacks_picture.false c.if-full.true

pub share-requires : goal.share-requires
share-requires c =
    let long = sound_long c.args.index.now c.requires.0 in
    (omega (arith, long), c.beside-held.ensures.1, c.pointer_of-pointer.ensures.1)

pub returns : goal.returns
returns c =
    let a = c.args in
    share_done a.full a.index.now a.s.now a.o a.i c.requires.3 c.cell-c.ensures.0 c.lacks_picture.ensures c.if-lacks_picture.false c.if-full.false c.requires.2
    c.pointer_of-pointer.ensures.0 c.beside-held.ensures.0 c.share.ensures
