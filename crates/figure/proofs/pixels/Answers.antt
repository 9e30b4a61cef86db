-- `pixels`: the part lent to `area` is the window's list of visibility rectangles with its room. Assumes nothing.
use Rattle.std.proofs.Common.{ap, not}
use Rattle.wire.specs.Parts.{slice}
use Rattle.figure.proofs.FigureFields.{hidden_slot, shown_slot}
use Rattle.figure.proofs.pixels.Goals as goal

pub returns-then-not-shows : goal.returns-then-not-shows
unfolding slice
returns-then-not-shows c = hidden_slot c.args.slot.now c.shows.ensures (ap not c.if-not-shows.true)

pub returns : goal.returns
unfolding slice
returns c = shown_slot c.args.slot.now c.shows.ensures (ap not c.if-not-shows.false) c.area.ensures
