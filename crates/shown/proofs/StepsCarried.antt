-- The picture that an order carries: where it begins, and that it fits the fixed layout. Assumes nothing.
use mathlib.Core.Path.{◌≡◌, refl, sym, ap, subst, ◌∙◌}
use mathlib.Core.Bool.{Bool, true, false}
use mathlib.Core.List.{List, []}
use Prim.Native.Nat.{ℕ, ◌+◌, ◌-◌, ◌≤◌}
use native.Mathlib.Omega.{arith}
use lib.Bits.{bit_and}
use lib.ListN.{length, replicate}
use borrow.Author.Tests.{ne_eqb}
use Rattle.std.specs.Prelude.{Ok, Err}
use Rattle.wire.specs.Tests.{pick}
use Rattle.wire.specs.Parts.{slice, splice}
use Rattle.wire.proofs.Numbers.{Bytes}
use Rattle.wire.proofs.Parts.{length_slice}
use Rattle.protocol.specs.Flags.{flag_icon}
use Rattle.order.specs.declared.WindowOrder.{WindowOrder}
use Rattle.order.specs.declared.NotificationOrder.{NotificationOrder}
use Rattle.order.specs.declared.DesktopOrder.{DesktopOrder}
use Rattle.order.specs.declared.Fault.{Fault}
use Rattle.order.specs.declared.Order.TheVariants.{Window, Notification, Desktop}
use Rattle.order.specs.Judge.{Judged, judge_of}
use Rattle.order.proofs.Pictures.{laid}
use Rattle.order.proofs.Accepted.{an_icon}
use Rattle.index.specs.declared.RecordOrder.{RecordOrder}
use Rattle.index.specs.Orders.{on_judged, brings_icon}
use Rattle.index.proofs.Ordered.{Ordered, window_order, notification_order, ordered_window, ordered_notification}
use Rattle.cache.specs.Cells.{carried_picture}
use Rattle.layout.specs.Layouts.{picture_size, picture_bytes}
use Rattle.layout.proofs.LayoutsWritten.{padded_put}
use Rattle.follow.specs.Follow.{carried_by}
use Rattle.shown.specs.Steps.{begins_at, Carries}

-- ---- where it begins

pub begins_none : (s : List ℕ) (flags icon : ℕ) → bit_and flags flag_icon ≡ 0 → length s ≡ begins_at s flags icon
begins_none s flags icon z = rw z

pub begins_icon : (s : List ℕ) (flags icon : ℕ) → (bit_and flags flag_icon ≡ 0 → ⊥) → icon + 3 ≡ begins_at s flags icon
begins_icon s flags icon n = rw (ne_eqb (bit_and flags flag_icon) 0 n)

-- ---- what is carried from there

-- nothing
none_slice : (s : List ℕ) → [] ≡ slice s (length s) (length s - length s)
unfolding slice
none_slice s = let e : length s - length s ≡ 0 = omega arith in rw e

carries_none : (s : List ℕ) → carried_by s ≡ [] → Carries s (length s)
carries_none s e = record { is = e ∙ none_slice s; within = omega arith; fits = omega arith }

-- an order for a record
abbrev brought : List ℕ → RecordOrder → List ℕ
brought s o = pick (brings_icon o.flags) (carried_picture s o.icon) []

carries_record : (s : List ℕ) (o : RecordOrder) → Ordered s o → carried_by s ≡ brought s o → Carries s (begins_at s o.flags o.icon)
unfolding carried_picture
carries_record s o h e = go (brings_icon o.flags) refl e
  where
    go : (t : Bool) → brings_icon o.flags ≡ t → carried_by s ≡ pick t (carried_picture s o.icon) [] → Carries s (pick t (o.icon + 3) (length s))
    go false t e = carries_none s e
    go true t e =
        let i = an_icon o.flags s o.icon (omega (arith, h.low)) t h.picture in
        let l = laid s o.icon in
        record {
          is = e;
          within = omega (arith, l.low, l.first, l.second, l.third, i.ends);
          fits = omega (arith, l.low, l.high, l.first, l.second, l.third, i.ends, i.bytes);
        }

by_judged_lem : (s : List ℕ) {j : Judged} → judge_of s ≡ j
    → carried_by s ≡ on_judged j (brought s) (λ flags. []) (λ n. [])
unfolding carried_by
by_judged_lem s e = ap (λ (j : Judged). on_judged j (brought s) (λ flags. []) (λ n. [])) e

module _ (s : List ℕ) {j : Judged} (judged : j ≡ judge_of s) where
  pub carries_window : Bytes s → {o : WindowOrder} → j ≡ Ok (Window o) → {r : ℕ} → r ≡ begins_at s o.flags o.icon → Carries s r
  carries_window b {o = o} e x =
      let d : judge_of s ≡ Ok (Window o) = sym judged ∙ e in
      subst (Carries s) (sym x) (carries_record s (window_order o) (ordered_window s b o d) (by_judged_lem s d))

  pub carries_notification : Bytes s → {o : NotificationOrder} → j ≡ Ok (Notification o) → {r : ℕ} → r ≡ begins_at s o.flags o.icon → Carries s r
  carries_notification b {o = o} e x =
      let d : judge_of s ≡ Ok (Notification o) = sym judged ∙ e in
      subst (Carries s) (sym x) (carries_record s (notification_order o) (ordered_notification s b o d) (by_judged_lem s d))

  pub carries_desktop : {o : DesktopOrder} → j ≡ Ok (Desktop o) → Carries s (length s)
  carries_desktop {o = o} e = carries_none s (by_judged_lem s (sym judged ∙ e))

  pub carries_refused : {r : Fault} → j ≡ Err r → Carries s (length s)
  carries_refused {r = r} e = carries_none s (by_judged_lem s (sym judged ∙ e))

-- ---- in the fixed layout

pub carried_put : (s out : List ℕ) {from : ℕ} {x y : List ℕ} → Carries s from → picture_size ≤ length out → x ≡ splice out 0 (slice s from (length s - from))
    → y ≡ splice x (length s - from) (replicate (picture_size - (length s - from)) 0)
    → y ≡ splice out 0 (picture_bytes (carried_by s))
unfolding picture_bytes
carried_put s out {from = from} c long ex ey =
    let l : length (slice s from (length s - from)) ≡ length s - from = length_slice s from (length s - from) (omega (arith, c.within)) in
    let q : length s - from ≡ 0 + length (slice s from (length s - from)) = omega (arith, l) in
    let m : picture_size - (length s - from) ≡ picture_size - length (slice s from (length s - from)) = ap (λ (n : ℕ). picture_size - n) (sym l) in
    padded_put out 0 picture_size (slice s from (length s - from)) q m (omega (arith, l, c.fits)) (omega (arith, long)) ex ey
    ∙ ap (λ (p : List ℕ). splice out 0 (picture_bytes p)) (sym c.is)
