-- The name, and the rectangles.
use Rattle.print.proofs.Laid.{then}
use Rattle.field_text.specs.Fields.{rectangles_field}
use Rattle.field_text.proofs.fields.rectangles.Goals as goal

pub returns : goal.returns
unfolding rectangles_field
returns c = then c.text-n.ensures c.sides.ensures
