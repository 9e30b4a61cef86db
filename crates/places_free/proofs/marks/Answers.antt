-- The pointers lie behind the number of places.
use Rattle.std.proofs.Common.{arith, length-drop, length-take, rules}
use Rattle.places.proofs.Ways.{lent_small, lent_marked, valid_long}
use Rattle.places_free.proofs.marks.Goals as goal

pub slice_bounds-marks_of-end : goal.slice_bounds-marks_of-end
slice_bounds-marks_of-end c =
    let l = valid_long c.args.bytes.now c.requires in
    search rules

pub marks_of-requires : goal.marks_of-requires
marks_of-requires c =
    let b = c.args.bytes.now in
    let l = valid_long b c.requires in
    (simp (length-take, length-drop) (omega arith), lent_small b l c.requires)

pub returns : goal.returns
returns c =
    let b = c.args.bytes.now in
    lent_marked b (valid_long b c.requires) c.marks_of.result c.marks_of.ensures
