-- One text after the other.
use Rattle.print.proofs.Laid.{then}
use Rattle.print.specs.Templates.{ascii, ascii_from}
use Rattle.desktop_text.specs.Notifications.{tip_text}
use Rattle.desktop_text.proofs.notifications.tip.Goals as goal

pub returns : goal.returns
unfolding tip_text ascii ascii_from
returns c = then c.words-n.ensures c.limits.ensures
