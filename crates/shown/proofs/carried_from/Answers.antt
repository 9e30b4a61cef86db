-- By the kind of the order: an accepted icon reaches to the order's end and fits the layout.
use Rattle.std.proofs.Common.{arith, Ok, ◌∙◌, ap}
use Rattle.wire.proofs.Numbers.{Bytes}
use Rattle.shown.proofs.StepsCarried.{carries_window, carries_notification, carries_desktop, carries_refused}
use Rattle.shown.proofs.carried_from.Goals as goal

pub returns-in-Ok-Window : goal.returns-in-Ok-Window
returns-in-Ok-Window c =
    let bytes : Bytes c.args.s.now = record { small = λ i. omega (arith, c.type_inv.s i) } in
    carries_window c.args.s.now c.judge.ensures bytes (c.in-Ok-Window.is ∙ ap Ok c.in-Ok-Window.field-0-is) c.begins_at.ensures

pub returns-in-Ok-Notification : goal.returns-in-Ok-Notification
returns-in-Ok-Notification c =
    let bytes : Bytes c.args.s.now = record { small = λ i. omega (arith, c.type_inv.s i) } in
    carries_notification c.args.s.now c.judge.ensures bytes (c.in-Ok-Notification.is ∙ ap Ok c.in-Ok-Notification.field-0-is) c.begins_at-in-Ok-Notification.ensures

pub returns-in-Ok-Desktop : goal.returns-in-Ok-Desktop
returns-in-Ok-Desktop c = carries_desktop c.args.s.now c.judge.ensures (c.in-Ok-Desktop.is ∙ ap Ok c.in-Ok-Desktop.field-0-is)

pub returns-in-Err : goal.returns-in-Err
returns-in-Err c = carries_refused c.args.s.now c.judge.ensures c.in-Err.is
