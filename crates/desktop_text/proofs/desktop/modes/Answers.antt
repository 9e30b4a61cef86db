-- The template is filled.
use Rattle.print.specs.Templates.{ascii, ascii_from}
use Rattle.desktop_text.specs.Desktop.{modes_text}
use Rattle.desktop_text.proofs.desktop.modes.Goals as goal

pub returns : goal.returns
unfolding modes_text ascii ascii_from
returns c = c.numbers.ensures
