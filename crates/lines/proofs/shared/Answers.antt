-- The number that the bytes have.
use Rattle.print.specs.Templates.{ascii, ascii_from}
use Rattle.lines.specs.Lines.{shared_text}
use Rattle.field_text.proofs.Numbers.{as_number}
use Rattle.lines.proofs.shared.Goals as goal

pub returns : goal.returns
unfolding shared_text ascii ascii_from
returns c = as_number (ascii " shared=") c.read_u8.ensures c.field.ensures
