-- The numbers that the bytes have.
use Rattle.print.proofs.Laid.{as_text}
use Rattle.print.specs.Templates.{ascii, ascii_from}
use Rattle.desktop_text.specs.Desktop.{shown_text}
use Rattle.desktop_text.proofs.Told.{figure_told}
use Rattle.desktop_text.proofs.desktop.figure.Goals as goal

pub returns : goal.returns
unfolding shown_text ascii ascii_from
returns c =
    as_text (figure_told c.args.bytes.now c.read_u32-shown.ensures c.read_u32-low.ensures c.read_u32-high.ensures) c.numbers.ensures
