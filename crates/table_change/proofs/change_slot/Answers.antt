-- The family tells the rows and where they begin.
use Rattle.std.proofs.Common.{arith}
use Rattle.table.proofs.Ways.{window_asks, notification_asks, window_slot, notification_slot}
use Rattle.table_change.proofs.change_slot.Goals as goal

pub store_fields-requires : goal.store_fields-requires
store_fields-requires c =
    let w = window_asks c.args.s.now c.args.c c.args.slot.now c.in-Windows.is c.requires.0 c.requires.1 in
    record {
      le_at = (omega arith, w.0, omega arith, omega arith, w.1);
      ends_well = w.2;
    }

pub store_fields-requires-in-Notifications : goal.store_fields-requires-in-Notifications
store_fields-requires-in-Notifications c =
    let w = notification_asks c.args.s.now c.args.c c.args.slot.now c.in-Notifications.is c.requires.0 c.requires.1 in
    record {
      le_at = (omega arith, w.0, omega arith, omega arith, w.1);
      ends_well = w.2;
    }

pub returns-in-Windows : goal.returns-in-Windows
returns-in-Windows c =
    let a = c.args in
    window_slot a.s.now a.c a.slot.now c.in-Windows.is c.store_fields.ensures

pub returns-in-Notifications : goal.returns-in-Notifications
returns-in-Notifications c =
    let a = c.args in
    notification_slot a.s.now a.c a.slot.now c.in-Notifications.is c.store_fields-in-Notifications.ensures
