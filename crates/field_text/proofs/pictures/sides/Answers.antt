-- The template is filled.
use Rattle.field_text.specs.Pictures.{sides_text}
use Rattle.field_text.proofs.pictures.sides.Goals as goal

pub returns : goal.returns
unfolding sides_text
returns c = c.numbers.ensures
