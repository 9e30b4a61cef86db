-- The part of the bodies is the slot.
use Rattle.std.proofs.Common.{arith}
use Rattle.present.proofs.TouchedStays.{slot_part}
use Rattle.present.proofs.PresentFigure.{slot_figure}
use Rattle.present_count.proofs.window_marked.Goals as goal

pub overflow_add-to : goal.overflow_add-to
overflow_add-to c = omega (arith, c.start-from.ensures.1)

pub slice_bounds-slot-end : goal.slice_bounds-slot-end
slice_bounds-slot-end c = omega (arith, (slot_part c.args.bodies.now c.args.i c.requires.0 c.requires.1 c.start-from.ensures.0).0)

pub returns : goal.returns
returns c =
    slot_figure (slot_part c.args.bodies.now c.args.i c.requires.0 c.requires.1 c.start-from.ensures.0).1 c.shows-shown.ensures c.pixels-pixels.ensures
