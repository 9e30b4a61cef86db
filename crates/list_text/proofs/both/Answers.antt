-- One text after the other.
use Rattle.print.proofs.Laid.{then}
use Rattle.print.specs.Templates.{ascii, ascii_from}
use Rattle.list_text.specs.Lists.{both_text}
use Rattle.list_text.proofs.both.Goals as goal

pub returns : goal.returns
unfolding both_text ascii ascii_from
returns c = then (then (then c.text-n.ensures c.entries-n.ensures) c.text-n-2.ensures) c.entries.ensures
