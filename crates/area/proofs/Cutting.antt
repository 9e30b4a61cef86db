-- The points that the first rectangles leave of a box: by one rectangle less where it does not meet the box, and in four pieces where it does. Assumes nothing.
use mathlib.Core.Path.{◌≡◌, refl, sym, ◌∙◌}
use mathlib.Core.Bool.{true, false, not}
use mathlib.Core.List.{List}
use Prim.Native.Nat.{ℕ, suc, ◌+◌, ◌*◌, ◌-◌, ◌≤◌, ◌<◌, min, max}
use native.Mathlib.Nat.{mul_comm}
use native.Mathlib.Omega.{arith}
use Rattle.wire.specs.Tests.{both}
use Rattle.area.specs.declared.Rect.{Rect}
use Rattle.area.specs.Area.{any_below, within, inside, rect_at, covered_by, side}
use Rattle.area.specs.Cutting.{area_by, left_over, most_points, box, meets}
use Rattle.area.proofs.Counting.{points_same, points_apart, points_none, points_most, points_inside}
use Rattle.area.proofs.Boxes.{In, is_in_lem, in_is, Apart, crossing, apart, within_cut, rows_apart, columns_apart, more_points, skip_point, full_point, no_point}
use Rattle.wire.proofs.Tests.{both_true}

-- ---- bounds

pub left_most : (s : List ℕ) (n : ℕ) (q : Rect) → left_over s n q ≤ most_points
unfolding left_over
left_most s n q = points_most side side (λ x y. both (inside q x y) (not (covered_by s n x y)))

pub area_most_lem : (s : List ℕ) (n : ℕ) → area_by s n ≤ most_points
unfolding area_by
area_most_lem s n = points_most side side (covered_by s n)

-- ---- no rectangle, and one more

pub area_none : (s : List ℕ) → area_by s 0 ≡ 0
unfolding area_by any_below
area_none s = points_none side side (covered_by s 0) (λ x y. refl)

-- what one more rectangle adds is what the others leave of it
pub area_more : (s : List ℕ) (i : ℕ) → area_by s (suc i) ≡ area_by s i + left_over s i (rect_at s i)
unfolding area_by left_over any_below
area_more s i =
    points_apart side side (covered_by s (suc i)) (covered_by s i) (λ x y. both (inside (rect_at s i) x y) (not (covered_by s i x y)))
    (λ x y. more_points (covered_by s i x y) (inside (rect_at s i) x y))

pub left_all : (s : List ℕ) (q : Rect) → q.right ≤ side → q.bottom ≤ side → (q.right - q.left) * (q.bottom - q.top) ≡ left_over s 0 q
unfolding left_over any_below
left_all s q h k =
    let e : min side q.right ≡ q.right = omega arith in
    let f : min side q.bottom ≡ q.bottom = omega arith in
    mul_comm (q.right - q.left) (q.bottom - q.top)
    ∙ sym (points_inside side side q ∙ rw (e, f))
    ∙ sym (points_same side side (λ x y. both (inside q x y) (not (covered_by s 0 x y))) (inside q) (λ x y. both_true (inside q x y)))

pub left_empty : (s : List ℕ) (n : ℕ) (q : Rect) → ((x y : ℕ) → In q x y → ⊥) → left_over s n q ≡ 0
unfolding left_over
left_empty s n q none =
    points_none side side (λ x y. both (inside q x y) (not (covered_by s n x y)))
    (λ x y. no_point (inside q x y) (covered_by s n x y) (λ i. none x y (is_in_lem q x y i)))

-- ---- a rectangle that does not meet the box, and one that contains it

left_skip : (s : List ℕ) (i : ℕ) (q : Rect) → Apart q (rect_at s i) → left_over s (suc i) q ≡ left_over s i q
unfolding left_over any_below
left_skip s i q h =
    points_same side side (λ x y. both (inside q x y) (not (covered_by s (suc i) x y))) (λ x y. both (inside q x y) (not (covered_by s i x y)))
    (λ x y. skip_point (inside q x y) (covered_by s i x y) (inside (rect_at s i) x y) (λ e f. h x y (is_in_lem q x y e) (is_in_lem (rect_at s i) x y f)))

pub left_next : (s : List ℕ) (i : ℕ) (q : Rect) → meets q (rect_at s i) ≡ false → left_over s (suc i) q ≡ left_over s i q
left_next s i q e = left_skip s i q (apart q (rect_at s i) e)

left_full : (s : List ℕ) (i : ℕ) (q : Rect) → ((x y : ℕ) → In q x y → In (rect_at s i) x y) → left_over s (suc i) q ≡ 0
unfolding left_over any_below
left_full s i q h =
    points_none side side (λ x y. both (inside q x y) (not (covered_by s (suc i) x y)))
    (λ x y. full_point (inside q x y) (covered_by s i x y) (inside (rect_at s i) x y) (λ e. in_is (rect_at s i) x y (h x y (is_in_lem q x y e))))

-- ---- a cut in two, above and below y or left and right of x

left_rows : (s : List ℕ) (n l t r b m : ℕ) → t ≤ m → m ≤ b → left_over s n (box l t r b) ≡ left_over s n (box l t r m) + left_over s n (box l m r b)
unfolding left_over inside
left_rows s n l t r b m h k =
    points_apart side side
    (λ x y. both (inside (box l t r b) x y) (not (covered_by s n x y)))
    (λ x y. both (inside (box l t r m) x y) (not (covered_by s n x y)))
    (λ x y. both (inside (box l m r b) x y) (not (covered_by s n x y)))
    (λ x y. rows_apart (within t b y) (within t m y) (within m b y) (within l r x) (not (covered_by s n x y)) (within_cut t m b y h k))

left_columns : (s : List ℕ) (n l t r b m : ℕ) → l ≤ m → m ≤ r → left_over s n (box l t r b) ≡ left_over s n (box l t m b) + left_over s n (box m t r b)
unfolding left_over inside
left_columns s n l t r b m h k =
    points_apart side side
    (λ x y. both (inside (box l t r b) x y) (not (covered_by s n x y)))
    (λ x y. both (inside (box l t m b) x y) (not (covered_by s n x y)))
    (λ x y. both (inside (box m t r b) x y) (not (covered_by s n x y)))
    (λ x y. columns_apart (within l r x) (within l m x) (within m r x) (within t b y) (not (covered_by s n x y)) (within_cut l m r x h k))

-- ---- the four pieces of a box around a rectangle that meets it: above, below, left and right

module _ (s : List ℕ) (i l t r b x y u v : ℕ)
    (ex : x ≡ max l (rect_at s i).left) (ey : y ≡ max t (rect_at s i).top) (eu : u ≡ min r (rect_at s i).right) (ev : v ≡ min b (rect_at s i).bottom) where
  above : left_over s (suc i) (box l t r y) ≡ left_over s i (box l t r y)
  above = left_skip s i (box l t r y) (λ p q e f. omega arith)

  below : left_over s (suc i) (box l v r b) ≡ left_over s i (box l v r b)
  below = left_skip s i (box l v r b) (λ p q e f. omega arith)

  beside_left : left_over s (suc i) (box l y x v) ≡ left_over s i (box l y x v)
  beside_left = left_skip s i (box l y x v) (λ p q e f. omega arith)

  beside_right : left_over s (suc i) (box u y r v) ≡ left_over s i (box u y r v)
  beside_right = left_skip s i (box u y r v) (λ p q e f. omega arith)

  middle : left_over s (suc i) (box x y u v) ≡ 0
  middle = left_full s i (box x y u v) (λ p q e. record { right_of = omega arith; left_of_lem = omega arith; under = omega arith; over = omega arith })

  pub left_cut : l < r → t < b → meets (box l t r b) (rect_at s i) ≡ true
      → left_over s i (box l t r y) + left_over s i (box l v r b) + left_over s i (box l y x v) + left_over s i (box u y r v) ≡ left_over s (suc i) (box l t r b)
  left_cut wide high e =
      let m = crossing (box l t r b) (rect_at s i) e in
      let r1 = left_rows s (suc i) l t r b y (omega arith) (omega arith) in
      let r2 = left_rows s (suc i) l y r b v (omega arith) (omega arith) in
      let c1 = left_columns s (suc i) l y r v x (omega arith) (omega arith) in
      let c2 = left_columns s (suc i) x y r v u (omega arith) (omega arith) in
      omega (arith, r1, r2, c1, c2, above, below, beside_left, beside_right, middle)
