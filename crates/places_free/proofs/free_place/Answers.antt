-- A copy in which both have let go has the marks of the others alone.
use Rattle.std.proofs.Common.{arith, rules}
use Rattle.places.proofs.Ways.{copied, length_left, left_small, free_found, valid_long, valid_first}
use Rattle.places_free.proofs.free_place.Goals as goal

pub copy_part-requires : goal.copy_part-requires
copy_part-requires c = (search rules, valid_long c.args.bytes.now c.requires.0)

pub marks_of-marks-requires : goal.marks_of-marks-requires
marks_of-marks-requires c =
    let b = c.args.bytes.now in
    let l = valid_long b c.requires.0 in
    let e = copied b l c.copy_part.ensures in
    (length_left b l e c.args.cell c.args.pointer c.requires.1 c.requires.2, left_small b l e c.args.cell c.args.pointer c.requires.1 c.requires.2 c.requires.0)

pub bounds-bytes-0 : goal.bounds-bytes-0
bounds-bytes-0 c =
    let l = valid_long c.args.bytes.now c.requires.0 in
    omega arith

pub first_unmarked-requires : goal.first_unmarked-requires
first_unmarked-requires c = valid_first c.args.bytes.now c.requires.0

pub returns : goal.returns
returns c =
    let b = c.args.bytes.now in
    let l = valid_long b c.requires.0 in
    free_found b l (copied b l c.copy_part.ensures) c.args.cell c.args.pointer c.requires.1 c.requires.2 c.requires.0
    c.marks_of-marks.result c.marks_of-marks.ensures c.first_unmarked.ensures
