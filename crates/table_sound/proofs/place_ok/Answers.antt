-- The head of a place lies behind the slots.
use Rattle.std.proofs.Common.{arith}
use Rattle.table.proofs.HeadsOnce.{marked_none, place_room, marked_head}
use Rattle.table_sound.proofs.place_ok.Goals as goal

pub returns-then-marks-p-eq0 : goal.returns-then-marks-p-eq0
returns-then-marks-p-eq0 c =
    let a = c.args in
    marked_none a.marks.now a.bodies.now a.p c.if-marks-p-eq0.true

pub is_ok-requires : goal.is_ok-requires
is_ok-requires c =
    let a = c.args in
    place_room a.marks.now a.bodies.now a.p c.requires.1 c.requires.0

pub returns : goal.returns
returns c =
    let a = c.args in
    marked_head a.marks.now a.bodies.now a.p (omega (arith, c.requires.0)) c.if-marks-p-eq0.false c.is_ok.ensures
