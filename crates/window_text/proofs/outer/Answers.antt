-- One text after the other.
use Rattle.print.proofs.Laid.{then}
use Rattle.window_text.specs.Windows.{outer_text}
use Rattle.window_text.proofs.outer.Goals as goal

pub returns : goal.returns
unfolding outer_text
returns c = then c.root-n.ensures c.places.ensures
