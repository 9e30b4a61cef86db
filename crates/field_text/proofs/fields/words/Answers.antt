-- The bytes of the text.
use Rattle.field_text.specs.Fields.{string_text}
use Rattle.field_text.proofs.fields.words.Goals as goal

pub returns : goal.returns
unfolding string_text
returns c = c.string.ensures
