-- What the functions on the stored figures answer, from slot to slot. Assumes nothing.
use mathlib.Core.Path.{◌≡◌, refl, sym, ap, ◌∙◌}
use mathlib.Core.Bool.{Bool, true, false}
use mathlib.Core.List.{List}
use Prim.Native.Nat.{ℕ, ◌+◌, ◌*◌, ◌%◌, ◌≤◌, ◌<◌}
use native.Mathlib.Nat.{add-zero}
use native.Mathlib.Numerals.{add-one}
use native.Mathlib.Omega.{arith}
use lib.Dec.{eqb}
use lib.ListN.{length, take, drop}
use borrow.Author.Tests.{eq-eqb}
use Rattle.wire.specs.Tests.{both}
use Rattle.wire.specs.Numbers.{num_at, bytes_of, Bytes}
use Rattle.wire.specs.Parts.{slice, splice}
use Rattle.wire.proofs.Numbers.{num_slice}
use Rattle.places.specs.Counts.{each_below}
use Rattle.area.specs.Area.{sum_below, one}
use Rattle.figure.specs.declared.Figure.{Figure}
use Rattle.figure.specs.Figure.{shown_at, pixels_at, figure_of, figure_bytes}
use Rattle.figure.specs.Kept.{totals_start, kept_length, pixels_place, kept_pixels, kept_figure, figures_ok, pixels_kept, kept_of}
use Rattle.figure.proofs.FigureBytes.{half, lower_half}
use Rattle.figure.proofs.FigureSums.{whole_figure}
use Rattle.figure.proofs.KeptFigures.{kept_pixels_lem, pixels_small, shown_same, pixels_same, pixels_length, pixels_front}

-- ---- read

pub kept_is : (index : List ℕ) {w l h : ℕ} → w ≡ num_at 4 index totals_start → l ≡ num_at 4 index (totals_start + 4) → h ≡ num_at 4 index (totals_start + 8)
    → ◌≡◌ {A = Figure} (record { windows = w; pixels = l + half * h }) (kept_figure index)
unfolding kept_figure
kept_is index ew el eh = rw (ew, el, eh, parts)
  where
    parts : num_at 4 index (totals_start + 4) + half * num_at 4 index (totals_start + 8) ≡ num_at 8 index (totals_start + 4)
    parts = unfold num_at in omega arith

-- ---- compared

abbrev is_same : List ℕ → List ℕ → ℕ → Bool
is_same index bodies i = eqb (kept_pixels index i) (pixels_at index bodies i)

pub none_other : (index bodies : List ℕ) → each_below 0 (is_same index bodies) ≡ true
unfolding each_below
none_other index bodies = refl

-- the number that is read for slot i
pub stored_is : (index : List ℕ) (i at n : ℕ) → at ≡ pixels_place i → n ≡ 4 → {v : ℕ} → v ≡ num_at 4 (take n (drop at index)) 0 → v ≡ kept_pixels index i
stored_is index i at n ea en e =
    let part : num_at 4 (take n (drop at index)) 0 ≡ num_at 4 (slice index (pixels_place i) 4) 0 = unfold slice in rw (ea, en) in
    e ∙ part ∙ num_slice 4 index (pixels_place i) 4 0 (omega arith) ∙ ap (num_at 4 index) (add-zero (pixels_place i))

-- pixels fit 4 bytes
pub pixels_whole : (index bodies : List ℕ) (i : ℕ) {p : ℕ} → Bytes bodies → p ≡ pixels_at index bodies i → p % half ≡ p
pixels_whole index bodies i b e = omega (arith, pixels_small index bodies i b, e)

module _ (index bodies : List ℕ) (i : ℕ) {stored p : ℕ} (es : stored ≡ kept_pixels index i) (ep : p ≡ pixels_at index bodies i) where
  pub same_more : each_below i (is_same index bodies) ≡ true → stored ≡ p → each_below (i + 1) (is_same index bodies) ≡ true
  unfolding each_below
  same_more e is = rw (add-one i, eq-eqb (kept_pixels index i) (pixels_at index bodies i) (sym es ∙ is ∙ ep), e)

  -- one that is wrong is enough
  pub other : i < 32 → (stored ≡ p → ⊥) → false ≡ figures_ok index bodies
  other h wrong = go (figures_ok index bodies) refl
    where
      go : (t : Bool) → figures_ok index bodies ≡ t → false ≡ t
      go true e = absurd (wrong (es ∙ kept_pixels_lem index bodies e i h ∙ sym ep))
      go false e = refl

pub all_same : (index bodies : List ℕ) {n w p : ℕ} {f : Figure} → n ≡ 32 → each_below n (is_same index bodies) ≡ true
    → w ≡ sum_below n (λ i. one (shown_at index bodies i)) → p ≡ sum_below n (pixels_at index bodies) → f ≡ kept_figure index
    → both (eqb f.windows w) (eqb f.pixels p) ≡ figures_ok index bodies
unfolding figures_ok figure_of
all_same index bodies {n} en es ew ep ef =
    let each : each_below 32 (is_same index bodies) ≡ true = ap (λ (k : ℕ). each_below k (is_same index bodies)) (sym en) ∙ es in
    rw (each, ew, ep, ef, en)

-- ---- written

pub none_kept : (index bodies : List ℕ) → index ≡ pixels_kept 0 index bodies
unfolding pixels_kept
none_kept index bodies = refl

pub kept_long : (index bodies : List ℕ) → kept_length ≤ length index → (i : ℕ) → i ≤ 32 → {x : List ℕ} → x ≡ pixels_kept i index bodies → length x ≡ length index
kept_long index bodies long i h is = ap (λ (s : List ℕ). length s) is ∙ pixels_length index bodies long i h

module _ (index bodies : List ℕ) (long : kept_length ≤ length index) (i : ℕ) (h : i < 32) {x : List ℕ} (is : x ≡ pixels_kept i index bodies) where
  front : take 589 x ≡ take 589 index
  front = ap (take 589) is ∙ pixels_front index bodies long i (omega arith)

  pub shown_kept : {t : Bool} → t ≡ shown_at x bodies i → t ≡ shown_at index bodies i
  shown_kept e = e ∙ shown_same x index bodies i h front

  pub pixels_kept_lem : {p : ℕ} → p ≡ pixels_at x bodies i → p ≡ pixels_at index bodies i
  pixels_kept_lem e = e ∙ pixels_same x index bodies i h front

  pub pixels_more : {p : ℕ} {y : List ℕ} → p ≡ pixels_at x bodies i → y ≡ splice x (pixels_place i) (bytes_of 4 (p % half)) → y ≡ pixels_kept (i + 1) index bodies
  unfolding pixels_kept
  pixels_more {p} e ey = ey ∙ rw (lower_half p, is, pixels_kept_lem e, add-one i)

pub all_kept : (index bodies : List ℕ) {n w p : ℕ} {x z : List ℕ} → n ≡ 32 → w ≡ sum_below n (λ i. one (shown_at index bodies i)) → p ≡ sum_below n (pixels_at index bodies)
    → x ≡ pixels_kept n index bodies → z ≡ splice x totals_start (figure_bytes (record { windows = w; pixels = p })) → z ≡ kept_of index bodies
unfolding kept_of
all_kept index bodies en ew ep ex ez = ez ∙ rw (whole_figure index bodies en ew ep, ex, en)
