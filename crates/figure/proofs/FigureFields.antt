-- A window's show state and visibility rectangles by their places in its slot. Assumes nothing.
use mathlib.Core.Path.{◌≡◌, refl, sym, ap, ◌∙◌}
use mathlib.Core.Bool.{Bool, true, false, not}
use mathlib.Core.List.{List}
use Prim.Native.Nat.{ℕ, ◌+◌, ◌*◌, ◌≤◌, ◌<◌}
use native.Mathlib.Nat.{zero-mul}
use native.Mathlib.Omega.{arith}
use lib.Dec.{eqb}
use lib.ListN.{get_or, take, drop}
use lib.Seq.{drop-drop}
use Rattle.wire.specs.Tests.{pick}
use Rattle.wire.specs.Numbers.{num_at, Bytes}
use Rattle.wire.specs.Parts.{slice}
use Rattle.wire.proofs.Numbers.{num1_is, num_take, num_slice, bytes_slice}
use Rattle.wire.proofs.Parts.{slice_take}
use Rattle.rows.specs.Rows.{show_row, first_of, len_of}
use Rattle.body.specs.Bodies.{window_fields, slot_of, field_in, fields_of, body_of}
use Rattle.body.proofs.Slots.{window_start, window_length_lem}
use Rattle.area.specs.Area.{list_length, area_of}
use Rattle.area.specs.Cutting.{most_points}
use Rattle.area.proofs.Prefix.{own_area}
use Rattle.area.proofs.Range.{area_at_most, area_fits}
use Rattle.figure.specs.Figure.{field_with, flag_show, flag_visibility, is_shown, pixels_of, window_at}

-- ---- the show state

show_place : (slot : List ℕ) → field_with flag_show window_fields (body_of window_fields slot).fields ≡ take 1 (slice slot 14 1)
unfolding field_with body_of fields_of field_in len_of
show_place slot = rw (zero-mul (first_of (show_row flag_show) (slice slot 14 1) 0))

show_state : (slot : List ℕ) → num_at 1 (field_with flag_show window_fields (body_of window_fields slot).fields) 0 ≡ get_or slot 14 0
show_state slot =
    ap (λ (f : List ℕ). num_at 1 f 0) (show_place slot)
    ∙ num_take 1 1 0 (slice slot 14 1) (omega arith)
    ∙ num_slice 1 slot 14 1 0 (omega arith)
    ∙ sym (num1_is slot 14)

pub shown_by : (slot : List ℕ) → not (eqb (get_or slot 14 0) 0) ≡ is_shown (body_of window_fields slot)
unfolding is_shown
shown_by slot = ap (λ (v : ℕ). not (eqb v 0)) (sym (show_state slot))

-- ---- the visibility rectangles

visibility_place : (slot : List ℕ)
    → field_with flag_visibility window_fields (body_of window_fields slot).fields ≡ take (list_length (num_at 2 (slice slot 736 130) 0)) (slice slot 736 130)
unfolding field_with body_of fields_of field_in len_of first_of
visibility_place slot = refl

visibility_area : (slot : List ℕ) → area_of (slice slot 736 130) ≡ area_of (field_with flag_visibility window_fields (body_of window_fields slot).fields)
visibility_area slot = sym (own_area (slice slot 736 130)) ∙ ap area_of (sym (visibility_place slot))

-- a number of pixels, which is small enough for sums
abbrev pub Pixels : ℕ → ℕ → Type 0
Pixels z n = (z ≡ n) × (z ≤ most_points)

pub hidden_slot : (slot : List ℕ) {shown : Bool} → shown ≡ is_shown (body_of window_fields slot) → not shown ≡ true → Pixels 0 (pixels_of (body_of window_fields slot))
unfolding pixels_of
hidden_slot slot {shown} e h = (go shown h ∙ ap (λ (t : Bool). pick t (area_of (field_with flag_visibility window_fields (body_of window_fields slot).fields)) 0) e, omega arith)
  where
    go : (t : Bool) → not t ≡ true → 0 ≡ pick t (area_of (field_with flag_visibility window_fields (body_of window_fields slot).fields)) 0
    go true k = let z : ◌≡◌ {A = ℕ} 0 1 = cc in absurd (omega arith)
    go false k = refl

pub shown_slot : (slot : List ℕ) {shown : Bool} {z : ℕ} → shown ≡ is_shown (body_of window_fields slot) → not shown ≡ false → z ≡ area_of (slice slot 736 130)
    → Pixels z (pixels_of (body_of window_fields slot))
unfolding pixels_of
shown_slot slot {shown} {z} e h ez = (
  ez ∙ visibility_area slot ∙ go shown h ∙ ap (λ (t : Bool). pick t (area_of (field_with flag_visibility window_fields (body_of window_fields slot).fields)) 0) e,
  omega (arith, ez, area_at_most (slice slot 736 130)),
)
  where
    area : ℕ
    area = area_of (field_with flag_visibility window_fields (body_of window_fields slot).fields)

    go : (t : Bool) → not t ≡ false → area ≡ pick t area 0
    go true k = refl
    go false k = let z : ◌≡◌ {A = ℕ} 0 1 = cc in absurd (omega arith)

-- they fit 4 bytes
pub pixels_fit : (slot : List ℕ) → Bytes slot → pixels_of (body_of window_fields slot) < most_points
unfolding pixels_of
pixels_fit slot b = go (is_shown (body_of window_fields slot))
  where
    go : (t : Bool) → pick t (area_of (field_with flag_visibility window_fields (body_of window_fields slot).fields)) 0 < most_points
    go true = omega (arith, visibility_area slot, area_fits (slice slot 736 130) (bytes_slice slot 736 130 b))
    go false = omega arith

-- ---- a window's slot

pub slot_is : (bodies : List ℕ) (i from n : ℕ) → i < 32 → from ≡ 1392 * i → n ≡ 1392 → take n (drop from bodies) ≡ slot_of bodies i
unfolding slot_of slice
slot_is bodies i from n l ef en = rw (window_start i l, window_length_lem i l, ef, en)

-- its visibility rectangles, in the bytes of all slots
visibility_part : (bodies : List ℕ) (i : ℕ) → i < 32 → slice bodies (1392 * i + 736) 130 ≡ slice (slot_of bodies i) 736 130
visibility_part bodies i l =
    let on : slice bodies (1392 * i + 736) 130 ≡ slice (drop (1392 * i) bodies) 736 130 = unfold slice in ap (take 130) (sym (drop-drop 736 (1392 * i) bodies)) in
    on
    ∙ sym (slice_take (drop (1392 * i) bodies) 736 130 1392 (omega arith))
    ∙ ap (λ (s : List ℕ). slice s 736 130) (slot_is bodies i (1392 * i) 1392 l refl refl)

pub pixels_by : (bodies : List ℕ) (i from n : ℕ) → i < 32 → from ≡ 1392 * i + 736 → n ≡ 130
    → area_of (take n (drop from bodies)) ≡ area_of (field_with flag_visibility window_fields (window_at bodies i).fields)
pixels_by bodies i from n l ef en =
    let part : take n (drop from bodies) ≡ slice bodies (1392 * i + 736) 130 = unfold slice in rw (ef, en) in
    ap area_of (part ∙ visibility_part bodies i l) ∙ visibility_area (slot_of bodies i)
