-- What holds of an order for a record that its bytes do not refuse. Assumes nothing.
use mathlib.Core.Path.{◌≡◌, refl, sym, ap, subst, ◌∙◌}
use mathlib.Core.Bool.{Bool, true, false, not}
use mathlib.Core.List.{List, [], ◌∷◌}
use Prim.Native.Nat.{ℕ, ◌+◌, ◌*◌, ◌/◌, ◌%◌, ◌^◌, ◌-◌, ◌≤◌, ◌<◌}
use native.Mathlib.Nat.{zero-div, zero-mul}
use native.Mathlib.Omega.{arith}
use lib.Dec.{eqb, leb}
use lib.Bits.{bit_and, and_high, and_mask, and_shr, and_mod}
use lib.ListN.{length}
use borrow.Author.Tests.{eqb-true, leb-true, le-leb, lt-leb, not-false}
use Rattle.std.specs.Prelude.{Ok}
use Rattle.wire.specs.Tests.{pick, both, either, all, has, has_all}
use Rattle.wire.specs.Numbers.{num_at}
use Rattle.wire.proofs.Numbers.{Bytes, num4_is}
use Rattle.protocol.specs.Flags.{desktop_arc_began, desktop_arc_completed, desktop_none, flag_big_icon, flag_cached_icon, flag_deleted, flag_icon, flag_new, flag_overlay_icon, flags_icon}
use Rattle.rows.specs.declared.Row.{Row}
use Rattle.rows.specs.declared.Fit.TheVariants.{Ends, Short}
use Rattle.rows.specs.Rows.{len_of, ok_of, cut_of, first_bad, field_of, step_of, on_fit, walk_of}
use Rattle.rows.proofs.Absent.{bit}
use Rattle.order.specs.declared.WindowOrder.{WindowOrder}
use Rattle.order.specs.declared.NotificationOrder.{NotificationOrder}
use Rattle.order.specs.declared.Order.TheVariants.{Window, Notification}
use Rattle.order.specs.Flags.{is_window, is_desktop, clash}
use Rattle.order.specs.Icons.{picture_fit}
use Rattle.order.specs.Judge.{flags_of, kind_rows, fields_fit, judge_of}
use Rattle.order.proofs.Accepted.{Accepted, a_window, a_notification, an_icon, a_cached}
use Rattle.places.specs.declared.Family.{Family}
use Rattle.places.specs.declared.Family.TheVariants.{Windows, Notifications}
use Rattle.slots.specs.Families.{highest}
use Rattle.index.specs.declared.RecordOrder.{RecordOrder}
use Rattle.index.specs.Orders.{is_new, is_delete, brings_icon, brings_cached, cell_at, sent_once}

number_small : (s : List ℕ) (at : ℕ) → Bytes s → num_at 4 s at < 4294967296
number_small s at b =
    let e = num4_is s at in
    omega (arith, e, b.small at, b.small (at + 1), b.small (at + 2), b.small (at + 3))

-- a walk does not go back
walk_past : (rs : List Row) (flags : ℕ) (s : List ℕ) (at bad q b : ℕ) → walk_of rs flags s at bad ≡ Ends q b → at ≤ q
unfolding walk_of step_of field_of
walk_past [] flags s at bad q b e = let x : at ≡ q = cc in omega arith
walk_past (r ∷ rs) flags s at bad q b e =
    go (has_all flags r.flag) (leb (len_of r s at) (length s - at)) e (λ p c h. walk_past rs flags s p c q b h)
  where
    go : (t u : Bool)
        → on_fit (pick t (pick u (Ends (at + len_of r s at) (first_bad bad (pick (ok_of r s at) 0 at))) (Short (cut_of r s at))) (Ends at bad))
        (λ cut. Short cut) (λ p c. walk_of rs flags s p c) ≡ Ends q b
        → ((p c : ℕ) → walk_of rs flags s p c ≡ Ends q b → p ≤ q) → at ≤ q
    go true true e ih = omega (arith, ih (at + len_of r s at) (first_bad bad (pick (ok_of r s at) 0 at)) e)
    go true false e ih = let z : ◌≡◌ {A = ℕ} 0 1 = cc in absurd (omega arith)
    go false u e ih = ih at bad e

-- a bit of a mask that no flag meets is no flag
bit_unset : (flags mask j : ℕ) → bit_and flags mask ≡ 0 → bit mask j ≡ 1 → bit_and flags (2 ^ (1 + j) - 2 ^ j) ≡ 0
bit_unset flags mask j z o =
    let m : bit_and (bit flags j) 1 ≡ bit flags j % 2 = and_mask (bit flags j) 1 in
    let n : bit 0 j ≡ 0 = ap (λ (n : ℕ). n % 2) (zero-div (2 ^ j)) in
    let both_bits : bit (bit_and flags mask) j ≡ bit_and (bit flags j) (bit mask j) =
    ap (λ (n : ℕ). n % 2) (and_shr flags mask j) ∙ and_mod (flags / 2 ^ j) (mask / 2 ^ j) 1 in
    let f : bit_and (bit flags j) 1 ≡ 0 = ap (bit_and (bit flags j)) (sym o) ∙ sym both_bits ∙ ap (λ (n : ℕ). bit n j) z ∙ n in
    let g : bit flags j ≡ 0 = omega (arith, m, f) in
    and_high flags 1 j ∙ ap (λ (n : ℕ). n * 2 ^ j) g ∙ zero-mul (2 ^ j)

-- the first of the rules on flags that clash
first_clash : (a b c d e f g k : Bool) → either (either (either (either (either (either (both a b) c) d) e) f) g) k ≡ false → a ≡ true → b ≡ false
first_clash true false c d e f g k h t = refl
first_clash true true c d e f g k h t = h
first_clash false b c d e f g k h t = let z : ◌≡◌ {A = ℕ} 0 1 = cc in absurd (omega arith)

-- what is deleted has none of these bits
deleted_alone : (flags : ℕ) → clash flags ≡ false → is_delete flags ≡ true → bit_and flags 0xD8FFFFFF ≡ 0
deleted_alone flags h t =
    let n : has flags 0xD8FFFFFF ≡ false =
    first_clash (has flags flag_deleted) (has flags 0xD8FFFFFF) (both (has flags flag_icon) (has flags flag_cached_icon))
    (all (is_window flags ∷ has flags flags_icon ∷ has flags 0x28EFDFFF ∷ [])) (both (has flags flag_big_icon) (not (has flags flags_icon)))
    (both (has flags flag_overlay_icon) (either (not (has flags flags_icon)) (has flags flag_big_icon))) (all (is_desktop flags ∷ has flags desktop_none ∷ has flags 0xF8FFFFFE ∷ [])) (all (is_desktop flags ∷ has flags desktop_arc_completed ∷ has flags desktop_arc_began ∷ [])) h t in
    eqb-true (bit_and flags 0xD8FFFFFF) 0 (not-false (eqb (bit_and flags 0xD8FFFFFF) 0) n)

-- it is not new
pub deleted_old : (f : Family) (flags : ℕ) → clash flags ≡ false → is_delete flags ≡ true → is_new f flags ≡ false
deleted_old f flags h t =
    let y : bit_and flags flag_new ≡ 0 = bit_unset flags 0xD8FFFFFF 28 (deleted_alone flags h t) refl in
    go f (rw y)
  where
    go : (f : Family) → has flags flag_new ≡ false → is_new f flags ≡ false
    go Windows e = rw e
    go Notifications e = e

-- a cached icon comes with no icon
second_clash : (a b c d e f g k : Bool) → either (either (either (either (either (either a (both b c)) d) e) f) g) k ≡ false → c ≡ true → b ≡ false
second_clash false true true d e f g k h t = h
second_clash false true false d e f g k h t = let z : ◌≡◌ {A = ℕ} 0 1 = cc in absurd (omega arith)
second_clash false false c d e f g k h t = refl
second_clash true b c d e f g k h t = let z : ◌≡◌ {A = ℕ} 0 1 = cc in absurd (omega arith)

pub cached_alone : (flags : ℕ) → clash flags ≡ false → brings_cached flags ≡ true → brings_icon flags ≡ false
cached_alone flags h t =
    second_clash (both (has flags flag_deleted) (has flags 0xD8FFFFFF)) (has flags flag_icon) (has flags flag_cached_icon)
    (all (is_window flags ∷ has flags flags_icon ∷ has flags 0x28EFDFFF ∷ [])) (both (has flags flag_big_icon) (not (has flags flags_icon)))
    (both (has flags flag_overlay_icon) (either (not (has flags flags_icon)) (has flags flag_big_icon))) (all (is_desktop flags ∷ has flags desktop_none ∷ has flags 0xF8FFFFFE ∷ [])) (all (is_desktop flags ∷ has flags desktop_arc_completed ∷ has flags desktop_arc_began ∷ [])) h t

-- ---- accepted orders

pub record Ordered (s : List ℕ) (o : RecordOrder) : Type 0 where
  pub first : o.window.id < 4294967296
  pub second : o.notify.id ≤ highest o.family
  pub agrees : clash o.flags ≡ false
  pub low : 7 ≤ o.icon
  pub picture : picture_fit o.flags s o.icon 0 ≡ Ends (length s) 0

abbrev pub window_order : WindowOrder → RecordOrder
window_order o = record { family = Windows; window = o.window; notify = record { id = 0 }; flags = o.flags; icon = o.icon }

abbrev pub notification_order : NotificationOrder → RecordOrder
notification_order o = record { family = Notifications; window = o.window; notify = o.notify; flags = o.flags; icon = o.icon }

module _ (s : List ℕ) (bytes : Bytes s) where
  icon_low : (w : Accepted s) → 7 ≤ w.icon
  unfolding fields_fit
  icon_low w = walk_past (kind_rows (flags_of s)) (flags_of s) s 7 0 w.icon 0 w.fields

  pub ordered_window : (o : WindowOrder) → judge_of s ≡ Ok (Window o) → Ordered s (window_order o)
  ordered_window o e =
      let w = a_window s o e in
      subst (λ (o : WindowOrder). Ordered s (window_order o)) (sym w.is)
      (record { first = number_small s 7 bytes; second = omega arith; agrees = w.whole.agrees; low = icon_low w.whole; picture = w.whole.picture })

  pub ordered_notification : (o : NotificationOrder) → judge_of s ≡ Ok (Notification o) → Ordered s (notification_order o)
  ordered_notification o e =
      let w = a_notification s o e in
      subst (λ (o : NotificationOrder). Ordered s (notification_order o)) (sym w.is)
      (record {
        first = number_small s 7 bytes;
        second = omega (arith, number_small s 11 bytes);
        agrees = w.whole.agrees;
        low = icon_low w.whole;
        picture = w.whole.picture;
      })

-- ---- cells

module _ (s : List ℕ) (o : RecordOrder) (h : Ordered s o) where
  -- an icon names a cell unless its cache id is FF
  pub icon_names : brings_icon o.flags ≡ true → leb 12 (cell_at s o.icon) ≡ sent_once s o.icon
  unfolding cell_at
  icon_names t =
      let i = an_icon o.flags s o.icon (omega (arith, h.low)) t h.picture in
      go (eqb (num_at 1 s (o.icon + 2)) 0xFF) refl i.entry i.cache
    where
      go : (u : Bool) → eqb (num_at 1 s (o.icon + 2)) 0xFF ≡ u → either u (leb (num_at 2 s o.icon) 5) ≡ true → either u (leb (num_at 1 s (o.icon + 2)) 1) ≡ true
          → leb 12 (6 * num_at 1 s (o.icon + 2) + num_at 2 s o.icon) ≡ u
      go true e x y = let c = eqb-true (num_at 1 s (o.icon + 2)) 0xFF e in le-leb 12 (6 * num_at 1 s (o.icon + 2) + num_at 2 s o.icon) (omega arith)
      go false e x y =
          let a = leb-true (num_at 2 s o.icon) 5 x in
          let b = leb-true (num_at 1 s (o.icon + 2)) 1 y in
          lt-leb 12 (6 * num_at 1 s (o.icon + 2) + num_at 2 s o.icon) (omega arith)

  pub cached_names : brings_icon o.flags ≡ false → brings_cached o.flags ≡ true → cell_at s o.icon < 12
  unfolding cell_at
  cached_names t u =
      let i = a_cached o.flags s o.icon (omega (arith, h.low)) t u h.picture in
      omega (arith, i.entry, i.cache)
