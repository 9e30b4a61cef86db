-- The template is filled.
use Rattle.print.specs.Templates.{ascii, ascii_from}
use Rattle.window_text.specs.Windows.{root_text}
use Rattle.window_text.proofs.root.Goals as goal

pub returns : goal.returns
unfolding root_text ascii ascii_from
returns c = c.numbers.ensures
