-- The bytes of the picture.
use Rattle.field_text.proofs.pictures.content.Goals as goal

pub returns : goal.returns
returns c = c.lying.ensures
