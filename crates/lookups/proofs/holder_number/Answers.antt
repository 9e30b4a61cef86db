-- By the kind of the holder.
use Rattle.session.proofs.Targets.{cell_number_lem, no_cell_number, small_number, big_number, overlay_number, notification_number, holder_as}
use Rattle.lookups.proofs.holder_number.Goals as goal

pub returns-then-c-lt-CELLS : goal.returns-then-c-lt-CELLS
returns-then-c-lt-CELLS c =
    let d = c.args.d.now in holder_as d c.in-Cell.is (cell_number_lem d c.in-Cell.cache c.in-Cell.entry c.cell_number-c.ensures c.if-c-lt-CELLS.true)

pub returns-else-c-lt-CELLS : goal.returns-else-c-lt-CELLS
returns-else-c-lt-CELLS c =
    let d = c.args.d.now in holder_as d c.in-Cell.is (no_cell_number d c.in-Cell.cache c.in-Cell.entry c.cell_number-c.ensures c.if-c-lt-CELLS.false)

pub returns-in-Small : goal.returns-in-Small
returns-in-Small c = let d = c.args.d.now in holder_as d c.in-Small.is (small_number d c.in-Small.w c.icon_number.ensures)

pub returns-in-Big : goal.returns-in-Big
returns-in-Big c = let d = c.args.d.now in holder_as d c.in-Big.is (big_number d c.in-Big.w c.icon_number-in-Big.ensures)

pub returns-in-Overlay : goal.returns-in-Overlay
returns-in-Overlay c =
    let d = c.args.d.now in holder_as d c.in-Overlay.is (overlay_number d c.in-Overlay.w c.icon_number-in-Overlay.ensures)

pub returns-in-Notification : goal.returns-in-Notification
returns-in-Notification c =
    let d = c.args.d.now in holder_as d c.in-Notification.is (notification_number d c.in-Notification.w c.in-Notification.n c.icon_number-in-Notification.ensures)
