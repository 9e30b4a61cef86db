-- The number that the bytes have.
use Rattle.print.specs.Templates.{ascii, ascii_from}
use Rattle.window_text.specs.Windows.{pixels_text}
use Rattle.field_text.proofs.Numbers.{as_number}
use Rattle.window_text.proofs.pixels.Goals as goal

pub returns : goal.returns
unfolding pixels_text ascii ascii_from
returns c = as_number (ascii " pixels=") c.read_u32.ensures c.field.ensures
