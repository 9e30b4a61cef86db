-- What the functions' ways out come to, from what their tests and calls say. Assumes nothing.
use mathlib.Core.Path.{◌≡◌, refl, sym, ap, ◌∙◌}
use mathlib.Core.Bool.{Bool, true, false}
use mathlib.Core.List.{List}
use Prim.Native.Nat.{ℕ, suc, ◌+◌, ◌*◌, ◌-◌, ◌≤◌, ◌<◌, min, max}
use native.Mathlib.Numerals.{add-one}
use native.Mathlib.Omega.{arith}
use lib.Dec.{leb, ltb}
use lib.ListN.{length}
use borrow.Author.Tests.{leb-true, ltb-true, ltb-false, le-leb}
use Rattle.wire.specs.Tests.{pick, both}
use Rattle.wire.specs.Numbers.{num_at}
use Rattle.wire.proofs.Tests.{both_left, both_right}
use Rattle.area.specs.declared.Rect.{Rect}
use Rattle.area.specs.Area.{area_of, points, listed, list_length, most_rects, rect_at, covered_by, side}
use Rattle.area.specs.Cutting.{area_by, left_over, most_points, box, meets, Met}
use Rattle.area.proofs.Boxes.{crossing}
use Rattle.area.proofs.Cutting.{left_most, left_empty, left_next, left_all, left_cut, area_none, area_more}

-- ---- the count

pub is_listed_lem : (s : List ℕ) (n : ℕ) → n ≡ num_at 2 s 0 → both (leb n most_rects) (leb (list_length n) (length s)) ≡ true → (n ≡ listed s) × (8 * n ≤ length s - 2)
unfolding listed
is_listed_lem s n e t =
    let h = leb-true (list_length n) (length s) (both_right (leb n most_rects) (leb (list_length n) (length s)) t) in
    (rw (← e, t), omega arith)

pub none_listed : (s : List ℕ) (n : ℕ) → n ≡ num_at 2 s 0 → both (leb n most_rects) (leb (list_length n) (length s)) ≡ false → 0 ≡ listed s
unfolding listed
none_listed s n e t = rw (← e, t)

-- a count of 1 with its rectangle; nothing else lists one
pub lists_one : (s : List ℕ) → num_at 2 s 0 ≡ 1 → list_length 1 ≤ length s → listed s ≡ 1
lists_one s e h = sym (is_listed_lem s 1 (sym e) (rw (le-leb 1 most_rects (omega arith), le-leb (list_length 1) (length s) h))).0

pub one_listed : (s : List ℕ) → listed s ≡ 1 → list_length 1 ≤ length s
unfolding listed
one_listed s e = go (both (leb n most_rects) (leb (list_length n) (length s))) refl e
  where
    n : ℕ
    n = num_at 2 s 0

    go : (t : Bool) → both (leb n most_rects) (leb (list_length n) (length s)) ≡ t → pick t n 0 ≡ 1 → list_length 1 ≤ length s
    go true f k = omega (arith, k, leb-true (list_length n) (length s) (both_right (leb n most_rects) (leb (list_length n) (length s)) f))
    go false f k = absurd (omega (arith, k))

-- ---- a rectangle read

pub is_rect : (s : List ℕ) (i : ℕ) {l t r b : ℕ}
    → l ≡ num_at 2 s (list_length i) → t ≡ num_at 2 s (list_length i + 2) → r ≡ num_at 2 s (list_length i + 4) → b ≡ num_at 2 s (list_length i + 6) → box l t r b ≡ rect_at s i
unfolding rect_at
is_rect s i el et er eb = rw (el, et, er, eb)

-- ---- the search for a rectangle that meets the box

pub tells : (s : List ℕ) (i : ℕ) (q : Rect) {p : Rect} {z : Bool} → p ≡ rect_at s i → z ≡ meets q p → z ≡ meets q (rect_at s i)
tells s i q e m = m ∙ ap (meets q) e

pub one_less : (s : List ℕ) (k : ℕ) (q : Rect) → 0 < k → meets q (rect_at s (k - 1)) ≡ false → left_over s k q ≡ left_over s (k - 1) q
one_less s k q h m =
    let e : k ≡ suc (k - 1) = omega arith in
    ap (λ (n : ℕ). left_over s n q) e ∙ left_next s (k - 1) q m

-- ---- what is left of a box

-- a number of points, which is small enough for sums
abbrev pub Points : ℕ → ℕ → Type 0
Points z n = (z ≡ n) × (z ≤ most_points)

few : (s : List ℕ) (n : ℕ) (q : Rect) {z : ℕ} → z ≡ left_over s n q → Points z (left_over s n q)
few s n q {z} e = (e, omega (arith, e, left_most s n q))

pub no_rows : (s : List ℕ) (n : ℕ) (q : Rect) → (q.top < q.bottom → ⊥) → Points 0 (left_over s n q)
no_rows s n q h = few s n q (sym (left_empty s n q (λ x y i. h (omega arith))))

pub no_columns : (s : List ℕ) (n : ℕ) (q : Rect) → (q.left < q.right → ⊥) → Points 0 (left_over s n q)
no_columns s n q h = few s n q (sym (left_empty s n q (λ x y i. h (omega arith))))

pub empty_box : (s : List ℕ) (n : ℕ) (q : Rect) → both (ltb q.left q.right) (ltb q.top q.bottom) ≡ false → Points 0 (left_over s n q)
empty_box s n q e = go (ltb q.left q.right) refl e
  where
    go : (t : Bool) → ltb q.left q.right ≡ t → both t (ltb q.top q.bottom) ≡ false → Points 0 (left_over s n q)
    go true f g = no_rows s n q (λ h. omega (arith, ltb-false q.top q.bottom g))
    go false f g = no_columns s n q (λ h. omega (arith, ltb-false q.left q.right f))

pub has_columns : (q : Rect) → both (ltb q.left q.right) (ltb q.top q.bottom) ≡ true → q.left < q.right
has_columns q e = ltb-true q.left q.right (both_left (ltb q.left q.right) (ltb q.top q.bottom) e)

pub size_fits : (s : List ℕ) (q : Rect) → q.right < side → q.bottom < side → (q.right - q.left) * (q.bottom - q.top) ≤ most_points
size_fits s q h j = omega (arith, left_all s q (omega arith) (omega arith), left_most s 0 q)

module _ (s : List ℕ) (n : ℕ) (q : Rect) (k : ℕ) (m : Met s n q k) where
  pub none_meets : k ≡ 0 → q.right < side → q.bottom < side → Points ((q.right - q.left) * (q.bottom - q.top)) (left_over s n q)
  none_meets e h j =
      few s n q (left_all s q (omega arith) (omega arith) ∙ sym (m.same ∙ ap (λ (i : ℕ). left_over s i q) e))

  pub one_meets : {z : ℕ} → (k ≡ 0 → ⊥) → z ≡ left_over s (k - 1 + 1) q → Points z (left_over s n q)
  one_meets {z} h e =
      let f : k - 1 + 1 ≡ k = omega arith in
      few s n q (e ∙ ap (λ (i : ℕ). left_over s i q) f ∙ sym m.same)

-- a rectangle that meets the box has rows of it
pub rows_crossed : (s : List ℕ) (i : ℕ) (q : Rect) {p : Rect} {y v : ℕ} → p ≡ rect_at s i → y ≡ max q.top p.top → v ≡ min q.bottom p.bottom
    → q.left < q.right → q.top < q.bottom → meets q (rect_at s i) ≡ true → y < v
rows_crossed s i q {p} e ey ev wide high m =
    let k = crossing q p (ap (meets q) e ∙ m) in
    omega arith

-- the four pieces together
pub cut_whole : (s : List ℕ) (i : ℕ) (q : Rect) {p : Rect} {x y u v a b c d : ℕ} → p ≡ rect_at s i
    → x ≡ max q.left p.left → y ≡ max q.top p.top → u ≡ min q.right p.right → v ≡ min q.bottom p.bottom
    → q.left < q.right → q.top < q.bottom → meets q (rect_at s i) ≡ true
    → a ≡ left_over s i (box q.left q.top q.right y) → b ≡ left_over s i (box q.left v q.right q.bottom)
    → c ≡ left_over s i (box q.left y x v) → d ≡ left_over s i (box u y q.right v)
    → Points (a + b + c + d) (left_over s (i + 1) q)
cut_whole s i q {x = x} {y = y} {u = u} {v = v} e ex ey eu ev wide high m ea eb ec ed =
    let all =
    left_cut s i q.left q.top q.right q.bottom x y u v
    (ex ∙ ap (λ (p : Rect). max q.left p.left) e) (ey ∙ ap (λ (p : Rect). max q.top p.top) e)
    (eu ∙ ap (λ (p : Rect). min q.right p.right) e) (ev ∙ ap (λ (p : Rect). min q.bottom p.bottom) e) wide high m in
    few s (i + 1) q (rw (ea, eb, ec, ed, add-one i) all)

-- ---- the sum

pub grown : (s : List ℕ) (i : ℕ) {sum z : ℕ} {p : Rect} → p ≡ rect_at s i → sum ≡ area_by s i → z ≡ left_over s i p → sum + z ≡ area_by s (i + 1)
grown s i e es ez = rw (es, ez, e, add-one i) (sym (area_more s i))

pub whole : (s : List ℕ) {n sum : ℕ} → n ≡ listed s → sum ≡ area_by s n → sum ≡ area_of s
unfolding area_of area_by
whole s e es = es ∙ ap (λ (k : ℕ). points side side (covered_by s k)) e

-- of one rectangle
pub alone : (s : List ℕ) {z : ℕ} {p : Rect} → listed s ≡ 1 → p ≡ rect_at s 0 → Points z (left_over s 0 p) → Points z (area_of s)
alone s {z} e ep ez =
    let g : 0 + z ≡ area_by s 1 = grown s 0 ep (sym (area_none s)) ez.0 in
    (omega (arith, whole s (sym e) g), ez.1)

-- which has the points between its sides
pub alone_between : (s : List ℕ) {p : Rect} {u v : ℕ} → listed s ≡ 1 → p ≡ rect_at s 0 → p.right < side → p.bottom < side → u ≡ max p.left p.right → v ≡ max p.top p.bottom
    → Points ((u - p.left) * (v - p.top)) (area_of s)
alone_between s {p} {u} {v} e ep right bottom eu ev =
    let w : u - p.left ≡ p.right - p.left = omega (arith, eu) in
    let h : v - p.top ≡ p.bottom - p.top = omega (arith, ev) in
    alone s e ep (few s 0 p (rw (w, h) (left_all s p (omega arith) (omega arith))))
