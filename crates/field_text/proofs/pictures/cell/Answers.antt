-- One text after the other, of the picture that the bytes are.
use Rattle.std.proofs.Common.{ap}
use Rattle.print.proofs.Laid.{as_text, then}
use Rattle.print.specs.Templates.{ascii, ascii_from}
use Rattle.field_text.specs.Pictures.{cell_text}
use Rattle.field_text.proofs.pictures.cell.Goals as goal

pub returns : goal.returns
unfolding cell_text ascii ascii_from
returns c = as_text (ap cell_text c.picture-p.ensures) (then c.sides-n.ensures c.content.ensures)
