-- By the kind of the target.
use Rattle.session.proofs.Targets.{listed_as, window_listed, notification_listed, cell_listed, desktop_listed, windows_listed, notifications_listed, shares_listed}
use Rattle.lookups.proofs.listed.Goals as goal

pub returns-in-Window : goal.returns-in-Window
returns-in-Window c = let d = c.args.d.now in listed_as d c.in-Window.is (window_listed d c.in-Window.w c.found.ensures)

pub returns-in-Notification : goal.returns-in-Notification
returns-in-Notification c =
    let d = c.args.d.now in listed_as d c.in-Notification.is (notification_listed d c.in-Notification.w c.in-Notification.n c.found-in-Notification.ensures)

pub returns-in-Cell : goal.returns-in-Cell
returns-in-Cell c =
    let d = c.args.d.now in listed_as d c.in-Cell.is (cell_listed d c.in-Cell.cache c.in-Cell.entry c.shares.ensures)

pub returns-in-Desktop : goal.returns-in-Desktop
returns-in-Desktop c = let d = c.args.d.now in listed_as d c.in-Desktop.is (desktop_listed d)

pub returns-in-Windows : goal.returns-in-Windows
returns-in-Windows c = let d = c.args.d.now in listed_as d c.in-Windows.is (windows_listed d)

pub returns-in-Notifications : goal.returns-in-Notifications
returns-in-Notifications c = let d = c.args.d.now in listed_as d c.in-Notifications.is (notifications_listed d)

pub returns-in-Shares : goal.returns-in-Shares
returns-in-Shares c =
    let d = c.args.d.now in listed_as d c.in-Shares.is (shares_listed d c.in-Shares.g c.in-Shares.k c.shares-in-Shares.ensures c.shares-in-Shares-2.ensures)
