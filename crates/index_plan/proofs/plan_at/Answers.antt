-- 11 comes from the cell of a cached icon. Without an icon no place is asked for; with one, its pointer and the cell beside it are holders.
use Rattle.slots.proofs.Ways.{sound_long, sound_holders}
use Rattle.index.proofs.PlansMade.{in_lacks, in_plain, in_full, in_taken}
use Rattle.index_plan.proofs.plan_at.Goals as goal

pub lacks_picture-requires : goal.lacks_picture-requires
lacks_picture-requires c = sound_long c.args.index.now c.requires.0

pub returns-then-lacks_picture : goal.returns-then-lacks_picture
returns-then-lacks_picture c =
    let a = c.args in
    in_lacks a.index.now a.s.now a.o a.i c.cell-c.ensures.0 c.lacks_picture.ensures c.if-lacks_picture.true

pub returns-then-o-eq0 : goal.returns-then-o-eq0
returns-then-o-eq0 c =
    let a = c.args in
    in_plain a.index.now a.s.now a.o a.i c.cell-c.ensures.0 c.lacks_picture.ensures c.if-lacks_picture.false c.pointer_of-pointer.ensures.0 c.beside-held.ensures.0 c.if-o-eq0.true
    c.change_at.ensures

pub free_place-requires : goal.free_place-requires
free_place-requires c = (sound_holders c.args.index.now c.requires.0, c.beside-held.ensures.1, c.pointer_of-pointer.ensures.1)

pub returns-in_default : goal.returns-in_default
returns-in_default c =
    let a = c.args in
    in_full a.index.now a.s.now a.o a.i c.cell-c.ensures.0 c.lacks_picture.ensures c.if-lacks_picture.false c.pointer_of-pointer.ensures.0 c.beside-held.ensures.0
    c.if-o-eq0.false c.free_place.ensures c.in_default.is

pub returns : goal.returns
returns c =
    let a = c.args in
    in_taken a.index.now a.s.now a.o a.i c.cell-c.ensures.0 c.lacks_picture.ensures c.if-lacks_picture.false c.pointer_of-pointer.ensures.0 c.beside-held.ensures.0
    c.if-o-eq0.false c.free_place.ensures c.in-Some.is c.change_at-2.ensures
