-- The family names the range.
use Rattle.slots.proofs.Ways.{find_family}
use Rattle.places.specs.declared.Family.TheVariants.{Windows, Notifications}
use Rattle.slots.proofs.find.Goals as goal

pub returns-in-Windows : goal.returns-in-Windows
returns-in-Windows c =
    let a = c.args in
    find_family a.index.now a.family Windows a.window.id a.notify.id c.in-Windows.is c.search_windows.ensures

pub returns-in-Notifications : goal.returns-in-Notifications
returns-in-Notifications c =
    let a = c.args in
    find_family a.index.now a.family Notifications a.window.id a.notify.id c.in-Notifications.is c.search.ensures
