-- The template is filled.
use Rattle.print.specs.Templates.{ascii, ascii_from}
use Rattle.window_text.specs.Windows.{bars_text}
use Rattle.window_text.proofs.bars.Goals as goal

pub returns : goal.returns
unfolding bars_text ascii ascii_from
returns c = c.numbers.ensures
