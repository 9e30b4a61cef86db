-- What is said of an order's bytes alone: the first of the numbers 2 to 8 that applies, with the offset at fault, or the
-- order's ids and flags. Assumes nothing.
use Rattle.std.specs.Prelude.{ℕ, Bool, not, List, length, ltb, eqb, Result, Ok, Err}
use Rattle.wire.specs.Tests.{pick}
use Rattle.wire.specs.Numbers.{num_at}
use Rattle.rows.specs.Rows.{window_rows, notification_rows, desktop_rows, on_fit, walk_of}
use Rattle.rows.specs.declared.Row.{Row}
use Rattle.rows.specs.declared.Fit.{Fit}
use Rattle.order.specs.Flags.{is_window, is_notification, one_type, closed, clash}
use Rattle.order.specs.Icons.{picture_fit}
use Rattle.order.specs.declared.Order.{Order}
use Rattle.order.specs.declared.Order.TheVariants.{Window, Notification, Desktop}
use Rattle.order.specs.declared.Fault.{Fault}
use Rattle.protocol.specs.Refusals as refusals
use Rattle.protocol.specs.declared.Refusal.{Refusal}
use Rattle.protocol.specs.declared.Refusal.TheVariants.{TooShort, LengthDiffers, UnknownType, UnknownFlag, FlagsClash, NotFilled, OutsideSet}

-- the order that bytes are, or what refuses them
abbrev pub Judged : Type 0
Judged = Result Order Fault

abbrev pub refuse : Refusal → ℕ → Judged
refuse refusal at = Err (record { refusal = refusal; at = at })

-- the number of an answer: 0 for an order
abbrev pub number_of : Judged → ℕ
number_of (Ok o) = 0
number_of (Err f) = refusals.number_of f.refusal

unfoldable pub flags_of : List ℕ → ℕ
flags_of s = num_at 4 s 3

-- the ids and flags, and where the icon or cached icon begins (the order's end where there is none)
unfoldable pub order_of : ℕ → List ℕ → ℕ → Judged
order_of flags s icon =
    pick (is_window flags)
    (Ok (Window (record { window = record { id = num_at 4 s 7 }; flags = flags; icon = icon })))
    (pick (is_notification flags)
    (Ok (Notification (record { window = record { id = num_at 4 s 7 }; notify = record { id = num_at 4 s 11 }; flags = flags; icon = icon })))
    (Ok (Desktop (record { flags = flags }))))

-- the rows of the kind
abbrev pub kind_rows : ℕ → List Row
kind_rows flags = pick (is_window flags) window_rows (pick (is_notification flags) notification_rows desktop_rows)

-- the flagged fields of the kind, after the header's 7 bytes
unfoldable pub fields_fit : ℕ → List ℕ → Fit
fields_fit flags s = walk_of (kind_rows flags) flags s 7 0

-- the first line that applies, with a closed list and where the fields end
abbrev pub judge_by : (ℕ → Bool) → (ℕ → List ℕ → Fit) → List ℕ → Judged
judge_by listed fit s =
    pick (ltb (length s) 7) (refuse TooShort 0)
    (pick (not (eqb (num_at 2 s 1) (length s))) (refuse LengthDiffers 1)
    (pick (not (eqb (num_at 1 s 0) 0x2E)) (refuse UnknownType 0)
    (pick (not (one_type (flags_of s))) (refuse UnknownType 3)
    (pick (not (listed (flags_of s))) (refuse UnknownFlag 3)
    (pick (clash (flags_of s)) (refuse FlagsClash 3)
    (on_fit (fit (flags_of s) s) (λ cut. refuse NotFilled cut) (λ icon bad.
    on_fit (picture_fit (flags_of s) s icon bad) (λ cut. refuse NotFilled cut) (λ end first.
    pick (not (eqb end (length s))) (refuse NotFilled end)
    (pick (not (eqb first 0)) (refuse OutsideSet first)
    (order_of (flags_of s) s icon))))))))))

unfoldable pub judge_of : List ℕ → Judged
judge_of s = judge_by closed fields_fit s

-- ---- its tails, for the private functions

unfoldable pub judge_end : ℕ → List ℕ → ℕ → ℕ → Judged
judge_end flags s icon bad =
    on_fit (picture_fit flags s icon bad) (λ cut. refuse NotFilled cut) (λ end first.
    pick (not (eqb end (length s))) (refuse NotFilled end)
    (pick (not (eqb first 0)) (refuse OutsideSet first)
    (order_of flags s icon)))

unfoldable pub judge_rows : List Row → ℕ → List ℕ → Judged
judge_rows rows flags s = on_fit (walk_of rows flags s 7 0) (λ cut. refuse NotFilled cut) (λ icon bad. judge_end flags s icon bad)

unfoldable pub judge_flags : ℕ → List ℕ → Judged
judge_flags flags s =
    pick (not (eqb (num_at 1 s 0) 0x2E)) (refuse UnknownType 0)
    (pick (not (one_type flags)) (refuse UnknownType 3)
    (pick (not (closed flags)) (refuse UnknownFlag 3)
    (pick (clash flags) (refuse FlagsClash 3)
    (judge_rows (kind_rows flags) flags s))))
