-- By the kind of the target.
use Rattle.store.specs.Store.{five}
use Rattle.session.specs.Handing.{HandsOut}
use Rattle.session.proofs.Handed.{hands_as, handed_as, window_with, notification_with, cell_with, desktop_asks, desktop_handed, windows_handed, notifications_handed, shares_handed}
use Rattle.lookups.proofs.hand_out.Goals as goal

pub window-requires : goal.window-requires
window-requires c =
    let Hands : Type 0 = HandsOut c.args.target c.args.x.now c.args.bodies.now
    (five c.args.a.now c.args.b.now c.args.c.now c.args.d.now c.args.e.now) c.args.journal.now c.args.m.now c.args.out.now in
    let hands : Hands = c.requires in
    hands_as c.in-Window.is (hands)

pub notification-requires : goal.notification-requires
notification-requires c =
    let Hands : Type 0 = HandsOut c.args.target c.args.x.now c.args.bodies.now
    (five c.args.a.now c.args.b.now c.args.c.now c.args.d.now c.args.e.now) c.args.journal.now c.args.m.now c.args.out.now in
    let hands : Hands = c.requires in
    hands_as c.in-Notification.is (hands)

pub cell-requires : goal.cell-requires
cell-requires c =
    let Hands : Type 0 = HandsOut c.args.target c.args.x.now c.args.bodies.now
    (five c.args.a.now c.args.b.now c.args.c.now c.args.d.now c.args.e.now) c.args.journal.now c.args.m.now c.args.out.now in
    let hands : Hands = c.requires in
    hands_as c.in-Cell.is (hands)

pub desktop-requires : goal.desktop-requires
desktop-requires c =
    let Hands : Type 0 = HandsOut c.args.target c.args.x.now c.args.bodies.now
    (five c.args.a.now c.args.b.now c.args.c.now c.args.d.now c.args.e.now) c.args.journal.now c.args.m.now c.args.out.now in
    let hands : Hands = c.requires in
    desktop_asks (hands_as c.in-Desktop.is (hands))

pub list-requires : goal.list-requires
list-requires c =
    let Hands : Type 0 = HandsOut c.args.target c.args.x.now c.args.bodies.now
    (five c.args.a.now c.args.b.now c.args.c.now c.args.d.now c.args.e.now) c.args.journal.now c.args.m.now c.args.out.now in
    let hands : Hands = c.requires in
    (hands_as c.in-Windows.is (hands)).room

pub list-requires-in-Notifications : goal.list-requires-in-Notifications
list-requires-in-Notifications c =
    let Hands : Type 0 = HandsOut c.args.target c.args.x.now c.args.bodies.now
    (five c.args.a.now c.args.b.now c.args.c.now c.args.d.now c.args.e.now) c.args.journal.now c.args.m.now c.args.out.now in
    let hands : Hands = c.requires in
    (hands_as c.in-Notifications.is (hands)).room

pub shares-requires : goal.shares-requires
shares-requires c =
    let Hands : Type 0 = HandsOut c.args.target c.args.x.now c.args.bodies.now
    (five c.args.a.now c.args.b.now c.args.c.now c.args.d.now c.args.e.now) c.args.journal.now c.args.m.now c.args.out.now in
    let hands : Hands = c.requires in
    (hands).long

pub write_u8-requires : goal.write_u8-requires
write_u8-requires c =
    let Hands : Type 0 = HandsOut c.args.target c.args.x.now c.args.bodies.now
    (five c.args.a.now c.args.b.now c.args.c.now c.args.d.now c.args.e.now) c.args.journal.now c.args.m.now c.args.out.now in
    let hands : Hands = c.requires in
    (hands_as c.in-Shares.is (hands)).room

pub returns-in-Window : goal.returns-in-Window
returns-in-Window c =
    let Hands : Type 0 = HandsOut c.args.target c.args.x.now c.args.bodies.now
    (five c.args.a.now c.args.b.now c.args.c.now c.args.d.now c.args.e.now) c.args.journal.now c.args.m.now c.args.out.now in
    let hands : Hands = c.requires in
    handed_as c.args.f c.in-Window.is (hands) (window_with c.args.f (hands_as c.in-Window.is (hands)) c.window.ensures)

pub returns-in-Notification : goal.returns-in-Notification
returns-in-Notification c =
    let Hands : Type 0 = HandsOut c.args.target c.args.x.now c.args.bodies.now
    (five c.args.a.now c.args.b.now c.args.c.now c.args.d.now c.args.e.now) c.args.journal.now c.args.m.now c.args.out.now in
    let hands : Hands = c.requires in
    handed_as c.args.f c.in-Notification.is (hands) (notification_with c.args.f (hands_as c.in-Notification.is (hands)) c.notification.ensures)

pub returns-in-Cell : goal.returns-in-Cell
returns-in-Cell c =
    let Hands : Type 0 = HandsOut c.args.target c.args.x.now c.args.bodies.now
    (five c.args.a.now c.args.b.now c.args.c.now c.args.d.now c.args.e.now) c.args.journal.now c.args.m.now c.args.out.now in
    let hands : Hands = c.requires in
    handed_as c.args.f c.in-Cell.is (hands) (cell_with c.args.f (hands_as c.in-Cell.is (hands)) c.cell.ensures)

pub returns-in-Desktop : goal.returns-in-Desktop
returns-in-Desktop c =
    let Hands : Type 0 = HandsOut c.args.target c.args.x.now c.args.bodies.now
    (five c.args.a.now c.args.b.now c.args.c.now c.args.d.now c.args.e.now) c.args.journal.now c.args.m.now c.args.out.now in
    let hands : Hands = c.requires in
    handed_as c.args.f c.in-Desktop.is (hands) (desktop_handed c.args.f (hands_as c.in-Desktop.is (hands)) c.desktop.ensures)

pub returns-in-Windows : goal.returns-in-Windows
returns-in-Windows c =
    let Hands : Type 0 = HandsOut c.args.target c.args.x.now c.args.bodies.now
    (five c.args.a.now c.args.b.now c.args.c.now c.args.d.now c.args.e.now) c.args.journal.now c.args.m.now c.args.out.now in
    let hands : Hands = c.requires in
    handed_as c.args.f c.in-Windows.is (hands) (windows_handed c.args.f (hands_as c.in-Windows.is (hands)) c.list.ensures)

pub returns-in-Notifications : goal.returns-in-Notifications
returns-in-Notifications c =
    let Hands : Type 0 = HandsOut c.args.target c.args.x.now c.args.bodies.now
    (five c.args.a.now c.args.b.now c.args.c.now c.args.d.now c.args.e.now) c.args.journal.now c.args.m.now c.args.out.now in
    let hands : Hands = c.requires in
    handed_as c.args.f c.in-Notifications.is (hands) (notifications_handed c.args.f (hands_as c.in-Notifications.is (hands)) c.list-in-Notifications.ensures)

pub returns-in-Shares : goal.returns-in-Shares
returns-in-Shares c =
    let Hands : Type 0 = HandsOut c.args.target c.args.x.now c.args.bodies.now
    (five c.args.a.now c.args.b.now c.args.c.now c.args.d.now c.args.e.now) c.args.journal.now c.args.m.now c.args.out.now in
    let hands : Hands = c.requires in
    handed_as c.args.f c.in-Shares.is (hands)
    (shares_handed c.args.f c.in-Shares.g c.in-Shares.k (hands_as c.in-Shares.is (hands)) c.shares.ensures c.write_u8.ensures)
