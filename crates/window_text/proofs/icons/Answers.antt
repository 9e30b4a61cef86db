-- One text after the other.
use Rattle.print.proofs.Laid.{then}
use Rattle.print.specs.Templates.{ascii, ascii_from}
use Rattle.window_text.specs.Windows.{icons_text}
use Rattle.window_text.proofs.icons.Goals as goal

pub returns : goal.returns
unfolding icons_text ascii ascii_from
returns c = then (then c.icon-n.ensures c.icon-n-2.ensures) c.icon.ensures
