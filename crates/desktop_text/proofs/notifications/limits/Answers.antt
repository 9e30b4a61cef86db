-- The template is filled.
use Rattle.print.specs.Templates.{ascii, ascii_from}
use Rattle.desktop_text.specs.Notifications.{limits_text}
use Rattle.desktop_text.proofs.notifications.limits.Goals as goal

pub returns : goal.returns
unfolding limits_text ascii ascii_from
returns c = c.numbers.ensures
