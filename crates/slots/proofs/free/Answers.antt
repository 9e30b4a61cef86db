-- The family names the range.
use Rattle.slots.proofs.Ways.{free_family}
use Rattle.places.specs.declared.Family.TheVariants.{Windows, Notifications}
use Rattle.slots.proofs.free.Goals as goal

pub returns-in-Windows : goal.returns-in-Windows
returns-in-Windows c =
    let a = c.args in
    free_family a.index.now a.family Windows c.in-Windows.is c.unused.ensures

pub returns-in-Notifications : goal.returns-in-Notifications
returns-in-Notifications c =
    let a = c.args in
    free_family a.index.now a.family Notifications c.in-Notifications.is c.unused-in-Notifications.ensures
