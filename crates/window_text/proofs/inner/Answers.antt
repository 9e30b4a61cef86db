-- One text after the other.
use Rattle.print.proofs.Laid.{then}
use Rattle.window_text.specs.Windows.{inner_text}
use Rattle.window_text.proofs.inner.Goals as goal

pub returns : goal.returns
unfolding inner_text
returns c = then c.client-n.ensures c.margins.ensures
