-- One text after the other.
use Rattle.print.proofs.Laid.{then}
use Rattle.print.specs.Templates.{ascii, ascii_from}
use Rattle.desktop_text.specs.Notifications.{balloon_text}
use Rattle.desktop_text.proofs.notifications.balloon.Goals as goal

pub returns : goal.returns
unfolding balloon_text ascii ascii_from
returns c = then (then c.words-n.ensures c.words-n-2.ensures) c.field.ensures
