-- By the kind of the target.
use Rattle.std.proofs.Common.{refl}
use Rattle.session.specs.Targets.{want_of}
use Rattle.session.proofs.Targets.{wanted_as}
use Rattle.lookups.proofs.want_of.Goals as goal

pub returns-in-Window : goal.returns-in-Window
unfolding want_of
returns-in-Window c = wanted_as c.in-Window.is refl

pub returns-in-Notification : goal.returns-in-Notification
unfolding want_of
returns-in-Notification c = wanted_as c.in-Notification.is refl

pub returns-in-Cell : goal.returns-in-Cell
unfolding want_of
returns-in-Cell c = wanted_as c.in-Cell.is refl

pub returns-in-Desktop : goal.returns-in-Desktop
unfolding want_of
returns-in-Desktop c = wanted_as c.in-Desktop.is refl

pub returns-in-Windows : goal.returns-in-Windows
unfolding want_of
returns-in-Windows c = wanted_as c.in-Windows.is refl

pub returns-in-Notifications : goal.returns-in-Notifications
unfolding want_of
returns-in-Notifications c = wanted_as c.in-Notifications.is refl

pub returns-in-Shares : goal.returns-in-Shares
unfolding want_of
returns-in-Shares c = wanted_as c.in-Shares.is refl
