-- One text after the other.
use Rattle.print.proofs.Laid.{then}
use Rattle.field_text.specs.Pictures.{lying_text}
use Rattle.field_text.proofs.pictures.lying.Goals as goal

pub returns : goal.returns
unfolding lying_text
returns c = then (then c.string-n.ensures c.string-n-2.ensures) c.string.ensures
