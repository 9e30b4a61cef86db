-- What its slot shows once it is followed.
use Rattle.wire.specs.Parts.{slice}
use Rattle.present.proofs.PresentFigure.{window_figure}
use Rattle.present_count.proofs.window_followed.Goals as goal

pub returns : goal.returns
unfolding slice
returns c =
    let a = c.args in
    window_figure a.index.now a.bodies.now a.journal.now a.count a.w c.from_mark.ensures c.shows-shown.ensures c.pixels-pixels.ensures
