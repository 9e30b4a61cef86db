-- The template is filled.
use Rattle.print.specs.Templates.{ascii, ascii_from}
use Rattle.window_text.specs.Windows.{looks_text}
use Rattle.window_text.proofs.looks.Goals as goal

pub returns : goal.returns
unfolding looks_text ascii ascii_from
returns c = c.numbers.ensures
