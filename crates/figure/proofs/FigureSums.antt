-- What the functions answer, and the sums from slot to slot. Assumes nothing.
use mathlib.Core.Path.{◌≡◌, refl, ap, ◌∙◌}
use mathlib.Core.Bool.{Bool, true, false, not}
use mathlib.Core.List.{List}
use Prim.Native.Nat.{ℕ, ◌+◌, ◌*◌, ◌≤◌, ◌<◌}
use native.Mathlib.Numerals.{add-one}
use native.Mathlib.Omega.{arith}
use borrow.Author.Tests.{ne_eqb}
use mir.Val.{bool_byte}
use lib.ListN.{get_or, take, drop}
use Rattle.wire.specs.Tests.{pick, both}
use Rattle.body.specs.Bodies.{window_fields, body_of}
use Rattle.slots.specs.Slots.{is_used}
use Rattle.slots.proofs.Once.{used_lent}
use Rattle.area.specs.Area.{sum_below, one, area_of}
use Rattle.figure.specs.declared.Figure.{Figure}
use Rattle.figure.specs.Figure.{field_with, flag_visibility, is_shown, pixels_of, window_at, shown_at, pixels_at, figure_of}
use Rattle.figure.proofs.FigureFields.{Pixels, slot_is, pixels_by}

-- ---- one slot

pub unused : (index bodies : List ℕ) (i : ℕ) → (get_or index (157 + 9 * i) 0 ≡ 1 → ⊥) → false ≡ shown_at index bodies i
unfolding is_used
unused index bodies i free = rw (← used_lent index i, ne_eqb (get_or index (157 + 9 * i) 0) 1 free)

pub shown_is : (index bodies : List ℕ) (i from n : ℕ) → i < 32 → from ≡ 1392 * i → n ≡ 1392 → {t : Bool} → get_or index (157 + 9 * i) 0 ≡ 1
    → t ≡ is_shown (body_of window_fields (take n (drop from bodies))) → t ≡ shown_at index bodies i
unfolding is_used
shown_is index bodies i from n l ef en used e = e ∙ rw (← used_lent index i, used, slot_is bodies i from n l ef en)

-- of a slot that shows no window, and of one that does
pub hidden : (index bodies : List ℕ) (i : ℕ) {shown : Bool} → shown ≡ shown_at index bodies i → not shown ≡ true → Pixels 0 (pixels_at index bodies i)
unfolding pixels_of
hidden index bodies i {shown} e h = (go (is_used index i) (is_shown (window_at bodies i)) shown e h, omega arith)
  where
    area : ℕ
    area = area_of (field_with flag_visibility window_fields (window_at bodies i).fields)

    go : (u s t : Bool) → t ≡ both u s → not t ≡ true → 0 ≡ pick u (pick s area 0) 0
    go true true t e k = let z : ◌≡◌ {A = ℕ} 0 1 = cc in absurd (omega arith)
    go true false t e k = refl
    go false s t e k = refl

pub visible : (index bodies : List ℕ) (i from n : ℕ) → i < 32 → from ≡ 1392 * i → n ≡ 1392 → {shown : Bool} {z : ℕ} → shown ≡ shown_at index bodies i → not shown ≡ false
    → Pixels z (pixels_of (body_of window_fields (take n (drop from bodies)))) → Pixels z (pixels_at index bodies i)
visible index bodies i from n l ef en {shown} e h p =
    (p.0 ∙ ap (λ (s : List ℕ). pixels_of (body_of window_fields s)) (slot_is bodies i from n l ef en) ∙ go (is_used index i) (is_shown (window_at bodies i)) shown e h, p.1)
  where
    go : (u s t : Bool) → t ≡ both u s → not t ≡ false → pixels_of (window_at bodies i) ≡ pick u (pixels_of (window_at bodies i)) 0
    go true s t e k = refl
    go false s t e k = let z : ◌≡◌ {A = ℕ} 0 1 = cc in absurd (omega arith)

-- of a window by its list of visibility rectangles alone
pub by_list : (index bodies : List ℕ) (i from n : ℕ) → i < 32 → from ≡ 1392 * i + 736 → n ≡ 130 → {shown : Bool} {z : ℕ} → shown ≡ shown_at index bodies i → not shown ≡ false
    → Pixels z (area_of (take n (drop from bodies))) → Pixels z (pixels_at index bodies i)
unfolding pixels_of
by_list index bodies i from n l ef en {shown} e h p =
    (p.0 ∙ pixels_by bodies i from n l ef en ∙ go (is_used index i) (is_shown (window_at bodies i)) shown e h, p.1)
  where
    area : ℕ
    area = area_of (field_with flag_visibility window_fields (window_at bodies i).fields)

    go : (u s t : Bool) → t ≡ both u s → not t ≡ false → area ≡ pick u (pick s area 0) 0
    go true true t e k = refl
    go true false t e k = let z : ◌≡◌ {A = ℕ} 0 1 = cc in absurd (omega arith)
    go false s t e k = let z : ◌≡◌ {A = ℕ} 0 1 = cc in absurd (omega arith)

-- ---- from slot to slot

pub sum_more : (i : ℕ) (f : ℕ → ℕ) {sum more : ℕ} → sum ≡ sum_below i f → more ≡ f i → sum + more ≡ sum_below (i + 1) f
unfolding sum_below
sum_more i f e g = rw (e, g, add-one i)

-- a bool as a number
pub counts : (b : Bool) → (bool_byte b ≡ one b) × (bool_byte b ≤ 1)
counts true = (refl, omega arith)
counts false = (refl, omega arith)

pub window_more : (index bodies : List ℕ) (i : ℕ) {sum : ℕ} {shown : Bool} → sum ≡ sum_below i (λ k. one (shown_at index bodies k))
    → shown ≡ shown_at index bodies i → sum + bool_byte shown ≡ sum_below (i + 1) (λ k. one (shown_at index bodies k))
window_more index bodies i {shown = shown} e h = sum_more i (λ k. one (shown_at index bodies k)) e ((counts shown).0 ∙ ap one h)

pub sum_zero : (f : ℕ → ℕ) → 0 ≡ sum_below 0 f
unfolding sum_below
sum_zero f = refl

pub whole_figure : (index bodies : List ℕ) {w p n : ℕ} → n ≡ 32 → w ≡ sum_below n (λ i. one (shown_at index bodies i)) → p ≡ sum_below n (pixels_at index bodies)
    → ◌≡◌ {A = Figure} (record { windows = w; pixels = p }) (figure_of index bodies)
unfolding figure_of
whole_figure index bodies en ew ep = rw (ew, ep, en)
