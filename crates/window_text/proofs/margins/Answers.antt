-- The template is filled.
use Rattle.print.specs.Templates.{ascii, ascii_from}
use Rattle.window_text.specs.Windows.{margins_text}
use Rattle.window_text.proofs.margins.Goals as goal

pub returns : goal.returns
unfolding margins_text ascii ascii_from
returns c = c.numbers.ensures
