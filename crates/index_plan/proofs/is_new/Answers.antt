-- The flags are tested as the definition tests them, by family.
use Rattle.index.proofs.Ways.{new_window_lem, new_notification}
use Rattle.index_plan.proofs.is_new.Goals as goal

pub returns-in-Windows : goal.returns-in-Windows
returns-in-Windows c = new_window_lem c.args.family c.args.flags c.in-Windows.is

pub returns-in-Notifications : goal.returns-in-Notifications
returns-in-Notifications c = new_notification c.args.family c.args.flags c.in-Notifications.is
