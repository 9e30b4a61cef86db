-- One text after the other.
use Rattle.print.proofs.Laid.{then}
use Rattle.print.specs.Templates.{ascii, ascii_from}
use Rattle.window_text.specs.Windows.{areas_text}
use Rattle.window_text.proofs.areas.Goals as goal

pub returns : goal.returns
unfolding areas_text ascii ascii_from
returns c = then (then c.rectangles-n.ensures c.visible-n.ensures) c.rectangles.ensures
