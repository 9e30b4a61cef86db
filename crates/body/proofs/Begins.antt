-- Where the fields of an order that is not refused begin, past the ids, and that they end well: what the store asks.
-- Assumes nothing.
use mathlib.Core.Path.{◌≡◌, sym, ap, ◌∙◌}
use mathlib.Core.List.{List, ◌∷◌}
use Prim.Native.Nat.{ℕ, ◌+◌, ◌≤◌}
use native.Mathlib.Nat.{zero-mul}
use native.Mathlib.Omega.{arith}
use lib.Bits.{bit_and, and_zero_r}
use lib.ListN.{length}
use borrow.Author.Tests.{eq-eqb}
use Rattle.rows.specs.declared.Row.{Row}
use Rattle.rows.specs.declared.Fit.TheVariants.{Ends}
use Rattle.rows.specs.Rows.{numbers_row, first_of, len_of, walk_of}
use Rattle.rows.proofs.RowsCarried.{stepped, carried}
use Rattle.order.specs.declared.WindowOrder.{WindowOrder}
use Rattle.order.specs.declared.NotificationOrder.{NotificationOrder}
use Rattle.order.specs.declared.DesktopOrder.{DesktopOrder}
use Rattle.order.specs.Judge.{flags_of}
use Rattle.order.proofs.Accepted.{AWindow, ANotification, ADesktop}
use Rattle.body.specs.Bodies.{window_fields, notification_fields, desktop_fields}
use Rattle.body.specs.Stores.{EndsWell}

-- the ids, of n bytes, are carried whatever the flags are
past_ids : (n : ℕ) (rs : List Row) (flags : ℕ) (s : List ℕ) (q : ℕ) → 7 ≤ length s → walk_of (numbers_row 0 n ∷ rs) flags s 7 0 ≡ Ends q 0
    → (7 + n ≤ length s) × EndsWell rs flags s (7 + n)
unfolding len_of
past_ids n rs flags s q l e =
    let r = numbers_row 0 n in
    let t = stepped r rs flags s 7 q e in
    let c = carried r flags s 7 t.next (omega arith) l (eq-eqb (bit_and flags 0) 0 (and_zero_r flags)) t.here in
    let z = zero-mul (first_of r s 7) in
    let k : t.next ≡ 7 + n = omega (arith, c.ends, z) in (
      omega (arith, c.within, k),
      record { end = q; well = ap (λ (i : ℕ). walk_of rs flags s i 0) (sym k) ∙ t.then },
    )

module _ (s : List ℕ) where
  pub window_begins : {o : WindowOrder} → AWindow s o → (11 ≤ length s) × EndsWell window_fields (flags_of s) s 11
  window_begins a = past_ids 4 window_fields (flags_of s) s a.whole.icon a.whole.long a.fields

  pub notification_begins : {o : NotificationOrder} → ANotification s o → (15 ≤ length s) × EndsWell notification_fields (flags_of s) s 15
  notification_begins a = past_ids 8 notification_fields (flags_of s) s a.whole.icon a.whole.long a.fields

  pub desktop_begins : {o : DesktopOrder} → ADesktop s o → (7 ≤ length s) × EndsWell desktop_fields (flags_of s) s 7
  desktop_begins a = (a.whole.long, record { end = a.whole.icon; well = a.fields })
