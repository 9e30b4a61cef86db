-- One text after the other.
use Rattle.print.proofs.Laid.{then}
use Rattle.print.specs.Templates.{ascii, ascii_from}
use Rattle.window_text.specs.Windows.{titled_text}
use Rattle.window_text.proofs.titled.Goals as goal

pub returns : goal.returns
unfolding titled_text ascii ascii_from
returns c = then c.looks-n.ensures c.words.ensures
