-- The pointers before h have their marks.
use Rattle.std.proofs.Common.{◌≡◌, arith, get_or, length-set, refl}
use Rattle.places.proofs.Ways.{marks_next}
use Rattle.places_free.proofs.mark_group.Goals as goal

pub loop-h-init : goal.loop-h-init
loop-h-init c = c.requires.marks_len

pub bounds-marks-v : goal.bounds-marks-v
bounds-marks-v c = c.requires.group_size_in_bounds.1 c.loop-h.h

pub loop-h-preserved : goal.loop-h-preserved
loop-h-preserved c =
    let w = c.loop-h in
    let ps = c.args.pointers.now in (
      simp length-set w.invariant.0,
      marks_next (λ k. get_or ps k 0) w.marks w.h (get_or ps w.h 0) w.invariant.0 refl (c.requires.group_size_in_bounds.1 w.h) w.invariant.1,
    )
