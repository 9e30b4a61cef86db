-- The marks are those of the pointers, so the places tested are those that holders point at.
use Rattle.slots.proofs.Soundness.{sound_has}
use Rattle.table.proofs.HeadsOnce.{heads_once}
use Rattle.table_sound.proofs.holders_ok.Goals as goal

pub marks-marks-requires : goal.marks-marks-requires
marks-marks-requires c = (sound_has c.args.index.now c.requires.0).holders

pub returns : goal.returns
returns c =
    let a = c.args in
    heads_once a.index.now a.bodies.now c.marks-marks.result c.requires.0 c.marks-marks.ensures c.places_ok.ensures
