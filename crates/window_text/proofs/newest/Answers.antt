-- One text after the other.
use Rattle.print.proofs.Laid.{then}
use Rattle.print.specs.Templates.{ascii, ascii_from}
use Rattle.window_text.specs.Windows.{newest_text}
use Rattle.window_text.proofs.newest.Goals as goal

pub returns : goal.returns
unfolding newest_text ascii ascii_from
returns c = then c.words-n.ensures c.bars.ensures
