-- A slot outside the family is not looked at; within it the ids decide.
use Rattle.std.proofs.Common.{ap, le-ltb, lt-ltb, ltb-true, not}
use Rattle.slots.proofs.Ways.{within_window, within_notification, record_outside, record_inside}
use Rattle.slots.specs.Slots.{is_at}
use Rattle.wire.specs.Tests.{both}
use Rattle.wire.proofs.Tests.{both_right}
use lib.Dec.{leb, ltb}
use borrow.Author.Tests.{not-true, not-false}
use Rattle.slots.proofs.has_record.Goals as goal

pub returns-then-i-ge-WINDOWS : goal.returns-then-i-ge-WINDOWS
returns-then-i-ge-WINDOWS c =
    let a = c.args in
    record_outside a.family a.i (is_at a.index.now a.window.id a.notify.id a.i) (within_window a.family a.i c.in-Windows.is) (le-ltb a.i 32 c.if-i-ge-WINDOWS.true)

pub returns-then-not-i : goal.returns-then-not-i
returns-then-not-i c =
    let a = c.args in
    record_outside a.family a.i (is_at a.index.now a.window.id a.notify.id a.i) (within_notification a.family a.i c.in-Notifications.is) (not-true (both (leb 32 a.i) (ltb a.i 48)) (ap not c.if-not-i.true))

pub is_at-requires-in-Notifications : goal.is_at-requires-in-Notifications
is_at-requires-in-Notifications c =
    let i = c.args.i in
    (ltb-true i 48 (both_right (leb 32 i) (ltb i 48) (not-false (both (leb 32 i) (ltb i 48)) (ap not c.if-not-i.false))), c.requires)

pub returns-else-i-ge-WINDOWS : goal.returns-else-i-ge-WINDOWS
returns-else-i-ge-WINDOWS c =
    let a = c.args in
    record_inside a.family a.i (is_at a.index.now a.window.id a.notify.id a.i) (within_window a.family a.i c.in-Windows.is) (lt-ltb a.i 32 c.if-i-ge-WINDOWS.false) c.is_at.ensures

pub returns-else-not-i : goal.returns-else-not-i
returns-else-not-i c =
    let a = c.args in
    record_inside a.family a.i (is_at a.index.now a.window.id a.notify.id a.i) (within_notification a.family a.i c.in-Notifications.is) (not-false (both (leb 32 a.i) (ltb a.i 48)) (ap not c.if-not-i.false)) c.is_at-in-Notifications.ensures
