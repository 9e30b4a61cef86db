-- The figures behind the index: what is written is what the rule asks, and nothing else of the index changes. Assumes nothing.
use mathlib.Core.Path.{◌≡◌, refl, sym, ap, ◌∙◌}
use mathlib.Core.Bool.{Bool, true, false}
use mathlib.Core.List.{List}
use Prim.Native.Nat.{ℕ, zero, suc, ◌+◌, ◌*◌, ◌/◌, ◌≤◌, ◌<◌}
use native.Mathlib.Omega.{arith}
use lib.Dec.{eqb}
use lib.ListN.{length, take, drop, length-append}
use borrow.Author.Tests.{eqb-true, eqb-false, eq-eqb}
use Rattle.wire.specs.Tests.{pick, both}
use Rattle.wire.specs.Numbers.{num_at, bytes_of, fits_in, Bytes}
use Rattle.wire.specs.Parts.{splice}
use Rattle.wire.proofs.Tests.{both_left, both_right}
use Rattle.wire.proofs.Parts.{length_splice, take_splice, drop_splice, splice_after}
use Rattle.wire.proofs.Numbers.{length_bytes, fits4, num_take, num_before, num_put, bytes_slice}
use Rattle.places.specs.Counts.{each_below}
use Rattle.places.proofs.Counting.{each_is, each_has}
use Rattle.body.specs.Bodies.{slot_of, slot_start, slot_length}
use Rattle.slots.specs.Families.{index_length, slot_at}
use Rattle.slots.specs.Slots.{used_at, is_used}
use Rattle.area.specs.Area.{sum_below, one}
use Rattle.area.specs.Cutting.{most_points}
use Rattle.area.proofs.Counting.{sum_same}
use Rattle.figure.specs.declared.Figure.{Figure}
use Rattle.figure.specs.Figure.{is_shown, pixels_of, window_at, shown_at, pixels_at, figure_of, figure_bytes}
use Rattle.figure.specs.Kept.{totals_start, kept_length, pixels_place, kept_pixels, kept_figure, figures_ok, pixels_kept, kept_of}
use Rattle.figure.proofs.FigureFields.{pixels_fit}

-- ---- what the index says of a slot

used_same : (x y : List ℕ) (i : ℕ) → i < 32 → take index_length x ≡ take index_length y → is_used x i ≡ is_used y i
unfolding is_used used_at
used_same x y i l e =
    ap (λ (v : ℕ). eqb v 1)
    (sym (num_take 1 index_length (slot_at i) x (omega arith)) ∙ ap (λ (s : List ℕ). num_at 1 s (slot_at i)) e ∙ num_take 1 index_length (slot_at i) y (omega arith))

pub shown_same : (x y bodies : List ℕ) (i : ℕ) → i < 32 → take index_length x ≡ take index_length y → shown_at x bodies i ≡ shown_at y bodies i
shown_same x y bodies i l e = ap (λ (u : Bool). both u (is_shown (window_at bodies i))) (used_same x y i l e)

pub pixels_same : (x y bodies : List ℕ) (i : ℕ) → i < 32 → take index_length x ≡ take index_length y → pixels_at x bodies i ≡ pixels_at y bodies i
pixels_same x y bodies i l e = ap (λ (u : Bool). pick u (pixels_of (window_at bodies i)) 0) (used_same x y i l e)

pub figure_same : (x y bodies : List ℕ) → take index_length x ≡ take index_length y → figure_of x bodies ≡ figure_of y bodies
unfolding figure_of
figure_same x y bodies e =
    rw (
      sum_same 32 (λ i. one (shown_at x bodies i)) (λ i. one (shown_at y bodies i)) (λ i l. ap one (shown_same x y bodies i l e)),
      sum_same 32 (pixels_at x bodies) (pixels_at y bodies) (λ i l. pixels_same x y bodies i l e),
    )

-- ---- the rule, figure by figure

pub is_ok : (index bodies : List ℕ) → ((i : ℕ) → i < 32 → kept_pixels index i ≡ pixels_at index bodies i) → kept_figure index ≡ figure_of index bodies
    → figures_ok index bodies ≡ true
unfolding figures_ok
is_ok index bodies each totals =
    rw (
      each_is 32 (λ i. eqb (kept_pixels index i) (pixels_at index bodies i)) (λ i l. eq-eqb (kept_pixels index i) (pixels_at index bodies i) (each i l)),
      eq-eqb (kept_figure index).windows (figure_of index bodies).windows (ap (λ (f : Figure). f.windows) totals),
      eq-eqb (kept_figure index).pixels (figure_of index bodies).pixels (ap (λ (f : Figure). f.pixels) totals),
    )

-- what is stored is the figure
pub kept_figure_lem : (index bodies : List ℕ) → figures_ok index bodies ≡ true → kept_figure index ≡ figure_of index bodies
unfolding figures_ok
kept_figure_lem index bodies e =
    let each = each_below 32 (λ i. eqb (kept_pixels index i) (pixels_at index bodies i)) in
    let w = eqb (kept_figure index).windows (figure_of index bodies).windows in
    let p = eqb (kept_figure index).pixels (figure_of index bodies).pixels in
    let t = both_right each (both w p) e in
    same (kept_figure index) (figure_of index bodies) (eqb-true (kept_figure index).windows (figure_of index bodies).windows (both_left w p t)) (eqb-true (kept_figure index).pixels (figure_of index bodies).pixels (both_right w p t))
  where
    same : (f g : Figure) → f.windows ≡ g.windows → f.pixels ≡ g.pixels → f ≡ g
    same f g w p = λ i. record { windows = w i; pixels = p i }

-- the pixels of each window too
pub kept_pixels_lem : (index bodies : List ℕ) → figures_ok index bodies ≡ true → (i : ℕ) → i < 32 → kept_pixels index i ≡ pixels_at index bodies i
unfolding figures_ok
kept_pixels_lem index bodies e i l =
    let test : ℕ → Bool = λ i. eqb (kept_pixels index i) (pixels_at index bodies i) in
    eqb-true (kept_pixels index i) (pixels_at index bodies i)
    (each_has 32 test (both_left (each_below 32 test) (both (eqb (kept_figure index).windows (figure_of index bodies).windows) (eqb (kept_figure index).pixels (figure_of index bodies).pixels)) e) i l)

-- ---- figures fit their bytes

pub pixels_small : (index bodies : List ℕ) (i : ℕ) → Bytes bodies → pixels_at index bodies i < most_points
unfolding slot_of
pixels_small index bodies i b = go (is_used index i)
  where
    go : (u : Bool) → pick u (pixels_of (window_at bodies i)) 0 < most_points
    go true = pixels_fit (slot_of bodies i) (bytes_slice bodies (slot_start i) (slot_length i) b)
    go false = omega arith

windows_few : (n : ℕ) (test : ℕ → Bool) → sum_below n (λ i. one (test i)) ≤ n
unfolding sum_below
windows_few zero test = omega arith
windows_few (suc n) test = go (test n) (windows_few n test)
  where
    go : (t : Bool) → sum_below n (λ i. one (test i)) ≤ n → sum_below n (λ i. one (test i)) + one t ≤ suc n
    go true h = omega arith
    go false h = omega arith

pixels_few : (index bodies : List ℕ) → Bytes bodies → (n : ℕ) → sum_below n (pixels_at index bodies) ≤ most_points * n
unfolding sum_below
pixels_few index bodies b zero = omega arith
pixels_few index bodies b (suc n) = omega (arith, pixels_few index bodies b n, pixels_small index bodies n b)

fits8 : (n : ℕ) → n ≤ most_points * 32 → fits_in 8 n ≡ true
unfolding fits_in
fits8 n h = eq-eqb (n / 256 / 256 / 256 / 256 / 256 / 256 / 256 / 256) 0 (omega arith)

-- ---- the pixels of the first slots

module _ (index bodies : List ℕ) (long : kept_length ≤ length index) where
  pub pixels_length : (n : ℕ) → n ≤ 32 → length (pixels_kept n index bodies) ≡ length index
  unfolding pixels_kept
  pixels_length zero h = refl
  pixels_length (suc n) h =
      let r = pixels_length n (omega arith) in
      let b = length_bytes 4 (pixels_at index bodies n) in
      length_splice (pixels_kept n index bodies) (pixels_place n) (bytes_of 4 (pixels_at index bodies n)) (omega arith) ∙ r

  module _ (n : ℕ) (h : n < 32) where
    room : pixels_place n + length (bytes_of 4 (pixels_at index bodies n)) ≤ length (pixels_kept n index bodies)
    room = omega (arith, h, long, pixels_length n (omega arith), length_bytes 4 (pixels_at index bodies n))

    pub next_is : pixels_kept (suc n) index bodies ≡ splice (pixels_kept n index bodies) (pixels_place n) (bytes_of 4 (pixels_at index bodies n))
    unfolding pixels_kept
    next_is = refl

  pub pixels_front : (n : ℕ) → n ≤ 32 → take index_length (pixels_kept n index bodies) ≡ take index_length index
  unfolding pixels_kept
  pixels_front zero h = refl
  pixels_front (suc n) h =
      take_splice (pixels_kept n index bodies) (pixels_place n) (bytes_of 4 (pixels_at index bodies n)) (room n (omega arith)) index_length (omega arith)
      ∙ pixels_front n (omega arith)

  pixels_past : (n : ℕ) → n ≤ 32 → drop kept_length (pixels_kept n index bodies) ≡ drop kept_length index
  unfolding pixels_kept
  pixels_past zero h = refl
  pixels_past (suc n) h =
      drop_splice (pixels_kept n index bodies) (pixels_place n) (bytes_of 4 (pixels_at index bodies n)) (room n (omega arith)) kept_length (omega (arith, length_bytes 4 (pixels_at index bodies n)))
      ∙ pixels_past n (omega arith)

  -- they read back
  pixels_back : Bytes bodies → (n : ℕ) → n ≤ 32 → (i : ℕ) → i < n → kept_pixels (pixels_kept n index bodies) i ≡ pixels_at index bodies i
  unfolding pixels_kept
  pixels_back b zero h i l = absurd (omega arith)
  pixels_back b (suc n) h i l = go (eqb i n) refl (pixels_back b n (omega arith) i)
    where
      p : ℕ
      p = pixels_at index bodies n

      go : (t : Bool) → eqb i n ≡ t → (i < n → kept_pixels (pixels_kept n index bodies) i ≡ pixels_at index bodies i)
          → num_at 4 (splice (pixels_kept n index bodies) (pixels_place n) (bytes_of 4 p)) (pixels_place i) ≡ pixels_at index bodies i
      go true e before =
          let r : i ≡ n = eqb-true i n e in
          rw r (num_put 4 (pixels_kept n index bodies) (pixels_place n) p (omega (arith, h, long, pixels_length n (omega arith))) (fits4 p (pixels_small index bodies n b)))
      go false e before =
          let r = eqb-false i n e in
          num_before 4 (pixels_kept n index bodies) (pixels_place n) (bytes_of 4 p) (room n (omega arith)) (pixels_place i) (omega arith)
          ∙ before (omega arith)

-- ---- the totals behind them

module _ (index bodies : List ℕ) (long : kept_length ≤ length index) where
  abbrev all : List ℕ
  all = pixels_kept 32 index bodies

  abbrev figure : Figure
  figure = figure_of index bodies

  totals_length : length (figure_bytes figure) ≡ 12
  unfolding figure_bytes
  totals_length = omega (arith, length-append (bytes_of 4 figure.windows) (bytes_of 8 figure.pixels), length_bytes 4 figure.windows, length_bytes 8 figure.pixels)

  totals_room : totals_start + length (figure_bytes figure) ≤ length all
  totals_room = omega (arith, long, totals_length, pixels_length index bodies long 32 (omega arith))

  pub kept_length_lem : length (kept_of index bodies) ≡ length index
  unfolding kept_of
  kept_length_lem = length_splice all totals_start (figure_bytes figure) totals_room ∙ pixels_length index bodies long 32 (omega arith)

  pub kept_front : take index_length (kept_of index bodies) ≡ take index_length index
  unfolding kept_of
  kept_front = take_splice all totals_start (figure_bytes figure) totals_room index_length (omega arith) ∙ pixels_front index bodies long 32 (omega arith)

  pub kept_past : drop kept_length (kept_of index bodies) ≡ drop kept_length index
  unfolding kept_of
  kept_past = drop_splice all totals_start (figure_bytes figure) totals_room kept_length (omega (arith, totals_length)) ∙ pixels_past index bodies long 32 (omega arith)

  module _ (b : Bytes bodies) where
    -- the two totals, one after the other
    two : kept_of index bodies ≡ splice (splice all totals_start (bytes_of 4 figure.windows)) (totals_start + 4) (bytes_of 8 figure.pixels)
    unfolding kept_of figure_bytes
    two =
        let lw = length_bytes 4 figure.windows in
        let lp = length_bytes 8 figure.pixels in
        sym (splice_after all totals_start (bytes_of 4 figure.windows) (bytes_of 8 figure.pixels) (totals_start + 4) (omega arith)
        (omega (arith, long, lw, lp, pixels_length index bodies long 32 (omega arith))))

    windows-back : num_at 4 (kept_of index bodies) totals_start ≡ figure.windows
    unfolding figure_of
    windows-back =
        let l = pixels_length index bodies long 32 (omega arith) in
        let lw = length_bytes 4 figure.windows in
        let lp = length_bytes 8 figure.pixels in
        let ls = length_splice all totals_start (bytes_of 4 figure.windows) (omega (arith, long, l, lw)) in
        ap (λ (s : List ℕ). num_at 4 s totals_start) two
        ∙ num_before 4 (splice all totals_start (bytes_of 4 figure.windows)) (totals_start + 4) (bytes_of 8 figure.pixels) (omega (arith, long, l, ls, lp)) totals_start (omega arith)
        ∙ num_put 4 all totals_start figure.windows (omega (arith, long, l)) (fits4 figure.windows (omega (arith, windows_few 32 (shown_at index bodies))))

    pixels-all-back : num_at 8 (kept_of index bodies) (totals_start + 4) ≡ figure.pixels
    unfolding figure_of
    pixels-all-back =
        let l = pixels_length index bodies long 32 (omega arith) in
        let lw = length_bytes 4 figure.windows in
        let ls = length_splice all totals_start (bytes_of 4 figure.windows) (omega (arith, long, l, lw)) in
        ap (λ (s : List ℕ). num_at 8 s (totals_start + 4)) two
        ∙ num_put 8 (splice all totals_start (bytes_of 4 figure.windows)) (totals_start + 4) figure.pixels (omega (arith, long, l, ls)) (fits8 figure.pixels (pixels_few index bodies b 32))

    each_back : (i : ℕ) → i < 32 → kept_pixels (kept_of index bodies) i ≡ pixels_at index bodies i
    unfolding kept_of
    each_back i h =
        num_before 4 all totals_start (figure_bytes figure) totals_room (pixels_place i) (omega arith) ∙ pixels_back index bodies long b 32 (omega arith) i h

    pub kept_ok : figures_ok (kept_of index bodies) bodies ≡ true
    kept_ok = is_ok (kept_of index bodies) bodies
        (λ i h. each_back i h ∙ sym (pixels_same (kept_of index bodies) index bodies i h kept_front))
        (unfold kept_figure in rw (windows-back, pixels-all-back) (sym (figure_same (kept_of index bodies) index bodies kept_front)))
