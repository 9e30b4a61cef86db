-- One text after the other.
use Rattle.print.proofs.Laid.{then}
use Rattle.window_text.specs.Windows.{fields_text}
use Rattle.window_text.proofs.fields.Goals as goal

pub returns : goal.returns
unfolding fields_text
returns c =
    then (then (then (then c.titled-n.ensures c.inner-n.ensures) c.outer-n.ensures) c.areas-n.ensures) c.newest.ensures
