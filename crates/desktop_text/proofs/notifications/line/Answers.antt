-- One text after the other, of the notification icon that the bytes are.
use Rattle.std.proofs.Common.{ap}
use Rattle.print.proofs.Laid.{as_text, then}
use Rattle.print.specs.Templates.{ascii, ascii_from}
use Rattle.desktop_text.specs.Notifications.{shown_as, notification_text}
use Rattle.desktop_text.proofs.notifications.line.Goals as goal

pub returns : goal.returns
unfolding notification_text ascii ascii_from
returns c =
    as_text (ap (shown_as c.args.window c.args.notify c.args.bytes.now) c.notification-r.ensures) (then (then (then c.ids-n.ensures c.tip-n.ensures) c.balloon-n.ensures) c.icon.ensures)
