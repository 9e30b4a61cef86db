-- The cells before c are apart and have their marks; a mark met again is a place with two cells.
use Rattle.std.proofs.Common.{◌+◌, ◌∙◌, ◌≡◌, arith, get_or, length-set, refl, sym, true}
use Rattle.places.specs.Counts.{each_below}
use Rattle.places.specs.Memory.{pointer_at}
use Rattle.places.proofs.Bytes.{inside}
use Rattle.places.proofs.Ways.{marks_none, marks_next}
use Rattle.places.proofs.Rule.{is_alone, apart_first, none_before, cell_small, cell_twice, cell_alone}
use Rattle.places_valid.proofs.cells_apart.Goals as goal

pub loop-c-init : goal.loop-c-init
loop-c-init c = let f = pointer_at c.args.bytes.now in (refl, marks_none f, none_before f)

pub bounds-marks-v : goal.bounds-marks-v
bounds-marks-v c = cell_small c.args.bytes.now c.loop-c.c (omega arith) c.requires.1

pub bounds-marks-v-in-loop-c : goal.bounds-marks-v-in-loop-c
bounds-marks-v-in-loop-c c = cell_small c.args.bytes.now c.loop-c.c (omega arith) c.requires.1

pub returns-then-v-marks : goal.returns-then-v-marks
returns-then-v-marks c =
    let w = c.loop-c in
    let b = c.args.bytes.now in
    cell_twice (pointer_at b) w.marks w.c (get_or b (w.c + 1) 0) (inside b w.c (omega arith)) (cell_small b w.c (omega arith) c.requires.1) w.invariant.1
    c.loop-c-test.true c.if-v-marks.true

pub loop-c-preserved : goal.loop-c-preserved
loop-c-preserved c =
    let w = c.loop-c in
    let b = c.args.bytes.now in
    let at_c = inside b w.c (omega arith) in
    let small = cell_small b w.c (omega arith) c.requires.1 in (
      simp length-set w.invariant.0,
      marks_next (pointer_at b) w.marks w.c (get_or b (w.c + 1) 0) w.invariant.0 at_c small w.invariant.1,
      cell_alone (pointer_at b) w.marks w.c (get_or b (w.c + 1) 0) at_c small w.invariant.1 c.if-v-marks.false w.invariant.2,
    )

pub returns : goal.returns
returns c =
    let w = c.loop-c in
    let f = pointer_at c.args.bytes.now in
    let e : w.c ≡ 12 = omega arith in
    let all : each_below 12 (is_alone f) ≡ true = rw e at w.invariant.2 in
    sym all ∙ apart_first f
