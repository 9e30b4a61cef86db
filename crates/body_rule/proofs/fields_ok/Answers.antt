-- The rows of a window, a notification icon or the desktop go by their own function, any others row by row.
use Rattle.body_rule.proofs.Ways.{rows_known}
use Rattle.body_rule.proofs.fields_ok.Goals as goal

pub returns-then-low-high : goal.returns-then-low-high
returns-then-low-high c = let a = c.args in rows_known a.slot.now a.low a.high 23 29 c.if-low-high.true c.notification_ok.ensures

pub returns-then-low-high-2 : goal.returns-then-low-high-2
returns-then-low-high-2 c = let a = c.args in rows_known a.slot.now a.low a.high 29 31 c.if-low-high-2.true c.desktop_ok.ensures
