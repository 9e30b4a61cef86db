-- The flags that clash, by kind of order: each kind's own tests say all that the list does. Assumes nothing.
use mathlib.Core.Path.{◌≡◌, refl, ap, ◌∙◌}
use mathlib.Core.Bool.{Bool, true, false, not}
use mathlib.Core.List.{[], ◌∷◌}
use Prim.Native.Nat.{ℕ}
use lib.Dec.{eqb}
use lib.Bits.{bit_and}
use borrow.Author.Tests.{eq-eqb, ne_eqb, eqb-true, not-false}
use Rattle.wire.specs.Tests.{pick, both, either, any, all, has}
use Rattle.wire.proofs.Tests.{both_left, both_right, both_false, both_true}
use Rattle.protocol.specs.Flags.{desktop_arc_began, desktop_arc_completed, desktop_none, flag_big_icon, flag_cached_icon, flag_deleted, flag_desktop, flag_icon, flag_overlay_icon, flags_icon}
use Rattle.rows.proofs.Absent.{unmet}
use Rattle.order.specs.Flags.{clash, is_desktop, is_window}

pub lacks : (flags mask : ℕ) → bit_and flags mask ≡ 0 → has flags mask ≡ false
lacks flags mask h = rw (eq-eqb (bit_and flags mask) 0 h)

pub meets : (flags mask : ℕ) → (bit_and flags mask ≡ 0 → ⊥) → has flags mask ≡ true
meets flags mask h = rw (ne_eqb (bit_and flags mask) 0 h)

-- ---- tests joined

either_false : (a : Bool) → either a false ≡ a
either_false true = refl
either_false false = refl

joined : (a k l : Bool) {b m : Bool} → a ≡ b → either k l ≡ m → either (either a k) l ≡ either b m
joined true k l {b} {m} e f = ap (λ (x : Bool). either x m) e
joined false k l {b} {m} e f = f ∙ ap (λ (x : Bool). either x m) e

-- ---- the tests of a kind

-- an icon with a cached icon
abbrev two_icons_lem : ℕ → Bool
two_icons_lem flags = both (has flags flag_icon) (has flags flag_cached_icon)

-- on a window, anything else beside either
abbrev beside_icon_lem : ℕ → Bool
beside_icon_lem flags = both (is_window flags) (has flags 0x28EFDFFF)

abbrev big_overlay_lem : ℕ → Bool
big_overlay_lem flags = both (has flags flag_overlay_icon) (has flags flag_big_icon)

-- where neither is
abbrev big_or_overlay : ℕ → Bool
big_or_overlay flags = either (has flags flag_big_icon) (has flags flag_overlay_icon)

abbrev pub icons_clash_lem : ℕ → Bool
icons_clash_lem flags = pick (has flags flags_icon) (any (two_icons_lem flags ∷ beside_icon_lem flags ∷ big_overlay_lem flags ∷ [])) (big_or_overlay flags)

abbrev on_desktop : ℕ → Bool
on_desktop flags = either (both (has flags desktop_none) (has flags 0xF8FFFFFE)) (both (has flags desktop_arc_completed) (has flags desktop_arc_began))

abbrev by_kind : ℕ → Bool
by_kind flags = pick (has flags flag_deleted) (has flags 0xD8FFFFFF) (either (icons_clash_lem flags) (both (is_desktop flags) (on_desktop flags)))

-- ---- they say what the list does

icon_tests : (i c w a m b o : Bool) → (a ≡ false → i ≡ false)
    → any (both i c ∷ all (w ∷ a ∷ m ∷ []) ∷ both b (not a) ∷ both o (either (not a) b) ∷ []) ≡ pick a (any (both i c ∷ both w m ∷ both o b ∷ [])) (either b o)
icon_tests i c w true m b o h = rw (both_true w, both_false b, either_false (either (both i c) (both w m)))
icon_tests i c w false m b o h = rw (h refl, both_false w, both_true b, both_true o)

desktop_tests : (k n f e g : Bool) → either (both (both k n) f) (both (both k e) g) ≡ both k (either (both n f) (both e g))
desktop_tests true n f e g = refl
desktop_tests false n f e g = refl

module _ (flags : ℕ) where
  -- nothing but deleted and the type bits
  alone : bit_and flags 0xD8FFFFFF ≡ 0 → clash flags ≡ false
  alone z =
      rw (
        lacks flags 0xD8FFFFFF z,
        lacks flags flag_icon (unmet flags 0xD8FFFFFF 30 1 z refl),
        lacks flags flags_icon (unmet flags 0xD8FFFFFF 30 2 z refl),
        lacks flags flag_big_icon (unmet flags 0xD8FFFFFF 13 1 z refl),
        lacks flags flag_overlay_icon (unmet flags 0xD8FFFFFF 20 1 z refl),
        lacks flags desktop_none (unmet flags 0xD8FFFFFF 0 1 z refl),
        lacks flags desktop_arc_completed (unmet flags 0xD8FFFFFF 2 1 z refl),
        both_false (has flags flag_deleted),
        both_false (is_window flags),
        both_false (is_desktop flags),
      )

  -- no icon where neither is
  icon : has flags flags_icon ≡ false → has flags flag_icon ≡ false
  icon h = lacks flags flag_icon (unmet flags flags_icon 30 1 (eqb-true (bit_and flags flags_icon) 0 (not-false (eqb (bit_and flags flags_icon) 0) h)) refl)

  by_kind_lem : clash flags ≡ by_kind flags
  by_kind_lem = go (eqb (bit_and flags flag_deleted) 0) (eqb (bit_and flags 0xD8FFFFFF) 0) refl refl
    where
      go : (d e : Bool) → eqb (bit_and flags flag_deleted) 0 ≡ d → eqb (bit_and flags 0xD8FFFFFF) 0 ≡ e → clash flags ≡ by_kind flags
      go true e t u =
          rw t
          (joined _ _ _
          (icon_tests (has flags flag_icon) (has flags flag_cached_icon) (is_window flags) (has flags flags_icon) (has flags 0x28EFDFFF) (has flags flag_big_icon) (has flags flag_overlay_icon) icon)
          (desktop_tests (is_desktop flags) (has flags desktop_none) (has flags 0xF8FFFFFE) (has flags desktop_arc_completed) (has flags desktop_arc_began)))
      go false false t u = rw (t, u)
      go false true t u = alone (eqb-true (bit_and flags 0xD8FFFFFF) 0 u) ∙ rw (t, u)

  -- ---- the tests of icons, one after the other

  module _ (a : bit_and flags flags_icon ≡ 0 → ⊥) where
    pub two_icons : two_icons_lem flags ≡ true → icons_clash_lem flags ≡ true
    two_icons t = rw (meets flags flags_icon a, t)

    module _ (x : two_icons_lem flags ≡ false) where
      pub beside_icon : beside_icon_lem flags ≡ true → icons_clash_lem flags ≡ true
      beside_icon t = rw (meets flags flags_icon a, x, t)

      pub big_overlay : beside_icon_lem flags ≡ false → {v : Bool} → big_overlay_lem flags ≡ v → icons_clash_lem flags ≡ v
      big_overlay y t = rw (meets flags flags_icon a, x, y, t)

  pub without_icon : bit_and flags flags_icon ≡ 0 → {v : Bool} → big_or_overlay flags ≡ v → icons_clash_lem flags ≡ v
  without_icon n t = rw (lacks flags flags_icon n, t)

  -- ---- a law for each answer

  pub none_clash : both (eqb (bit_and flags 0x24102000) 0) (eqb (bit_and flags flags_icon) 0) ≡ true → false ≡ clash flags
  none_clash t =
      let few : bit_and flags 0x24102000 ≡ 0 = eqb-true (bit_and flags 0x24102000) 0 (both_left (eqb (bit_and flags 0x24102000) 0) (eqb (bit_and flags flags_icon) 0) t) in
      let icons : bit_and flags flags_icon ≡ 0 = eqb-true (bit_and flags flags_icon) 0 (both_right (eqb (bit_and flags 0x24102000) 0) (eqb (bit_and flags flags_icon) 0) t) in
      rw (
        by_kind_lem,
        lacks flags flag_deleted (unmet flags 0x24102000 29 1 few refl),
        lacks flags flags_icon icons,
        lacks flags flag_big_icon (unmet flags 0x24102000 13 1 few refl),
        lacks flags flag_overlay_icon (unmet flags 0x24102000 20 1 few refl),
        lacks flags flag_desktop (unmet flags 0x24102000 26 1 few refl),
      )

  pub deleted_clash : (bit_and flags flag_deleted ≡ 0 → ⊥) → has flags 0xD8FFFFFF ≡ clash flags
  deleted_clash d = rw (by_kind_lem, meets flags flag_deleted d)

  module _ (d : bit_and flags flag_deleted ≡ 0) where
    pub icons_clash : icons_clash_lem flags ≡ true → true ≡ clash flags
    icons_clash i = rw (by_kind_lem, lacks flags flag_deleted d, i)

    module _ (i : icons_clash_lem flags ≡ false) where
      pub other_clash : bit_and flags flag_desktop ≡ 0 → false ≡ clash flags
      other_clash k = rw (by_kind_lem, lacks flags flag_deleted d, i, lacks flags flag_desktop k)

      pub desktop_clash : (bit_and flags flag_desktop ≡ 0 → ⊥) → on_desktop flags ≡ clash flags
      desktop_clash k = rw (by_kind_lem, lacks flags flag_deleted d, i, meets flags flag_desktop k)
