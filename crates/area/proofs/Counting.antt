-- Laws of counting: sums term by term, counts of points that pass one of two tests, and the points of a rectangle. Assumes nothing.
use mathlib.Core.Path.{◌≡◌, refl, sym, ap, ◌∙◌}
use mathlib.Core.Bool.{Bool, true, false}
use Prim.Native.Nat.{ℕ, zero, suc, ◌+◌, ◌*◌, ◌-◌, ◌≤◌, ◌<◌, min}
use native.Mathlib.Nat.{zero-mul, suc-mul, add-mul, one-mul}
use native.Mathlib.Omega.{arith}
use lib.Dec.{eqb, leb, ltb}
use borrow.Author.Tests.{eqb-true, eqb-false, ne_eqb, leb-true, leb-false, ltb-true, ltb-false}
use Rattle.wire.specs.Tests.{pick, both}
use Rattle.area.specs.declared.Rect.{Rect}
use Rattle.area.specs.Area.{sum_below, one, points, within, inside}

-- ---- sums

pub sum_cong : (n : ℕ) (f g : ℕ → ℕ) → ((k : ℕ) → f k ≡ g k) → sum_below n f ≡ sum_below n g
unfolding sum_below
sum_cong zero f g e = refl
sum_cong (suc n) f g e = omega (arith, sum_cong n f g e, e n)

pub sum_add : (n : ℕ) (f g : ℕ → ℕ) → sum_below n (λ k. f k + g k) ≡ sum_below n f + sum_below n g
unfolding sum_below
sum_add zero f g = refl
sum_add (suc n) f g = omega (arith, sum_add n f g)

pub sum_none : (n : ℕ) (f : ℕ → ℕ) → ((k : ℕ) → f k ≡ 0) → sum_below n f ≡ 0
unfolding sum_below
sum_none zero f e = refl
sum_none (suc n) f e = omega (arith, sum_none n f e, e n)

sum_most : (n m : ℕ) (f : ℕ → ℕ) → ((k : ℕ) → f k ≤ m) → sum_below n f ≤ n * m
unfolding sum_below
sum_most zero m f e = omega (arith, zero-mul m)
sum_most (suc n) m f e = omega (arith, suc-mul n m, sum_most n m f e, e n)

-- term by term below the bound
pub sum_same : (n : ℕ) (f g : ℕ → ℕ) → ((k : ℕ) → k < n → f k ≡ g k) → sum_below n f ≡ sum_below n g
unfolding sum_below
sum_same zero f g e = refl
sum_same (suc n) f g e = omega (arith, sum_same n f g (λ k h. e k (omega arith)), e n (omega arith))

-- all terms but one are 0
pub sum_one : (n k c : ℕ) → k < n → sum_below n (λ j. pick (eqb k j) c 0) ≡ c
unfolding sum_below
sum_one zero k c h = absurd (omega arith)
sum_one (suc n) k c h = go (eqb k n) refl (sum_one n k c)
  where
    go : (t : Bool) → eqb k n ≡ t → (k < n → sum_below n (λ j. pick (eqb k j) c 0) ≡ c) → sum_below n (λ j. pick (eqb k j) c 0) + pick t c 0 ≡ c
    go true e before =
        let z = sum_same n (λ j. pick (eqb k j) c 0) (λ j. 0) (λ j l. ap (λ (t : Bool). pick t c 0) (ne_eqb k j (λ q. omega (arith, eqb-true k n e)))) in
        omega (arith, z, sum_none n (λ j. 0) (λ j. refl))
    go false e before = omega (arith, before (omega (arith, eqb-false k n e)))

-- row by row or column by column
pub sum_swap : (m n : ℕ) (g : ℕ → ℕ → ℕ) → sum_below m (λ a. sum_below n (λ b. g a b)) ≡ sum_below n (λ b. sum_below m (λ a. g a b))
unfolding sum_below
sum_swap zero n g = sym (sum_none n (λ b. 0) (λ b. refl))
sum_swap (suc m) n g = omega (arith, sum_swap m n g, sum_add n (λ b. sum_below m (λ a. g a b)) (g m))

-- the same amount for each number that passes a test
sum_times : (n c : ℕ) (p : ℕ → Bool) → sum_below n (λ k. one (p k) * c) ≡ sum_below n (λ k. one (p k)) * c
unfolding sum_below
sum_times zero c p = sym (zero-mul c)
sum_times (suc n) c p = omega (arith, sum_times n c p, add-mul (sum_below n (λ k. one (p k))) (one (p n)) c)

-- ---- points

module _ (w h : ℕ) where
  pub points_same : (p q : ℕ → ℕ → Bool) → ((x y : ℕ) → p x y ≡ q x y) → points w h p ≡ points w h q
  unfolding points
  points_same p q e =
      sum_cong h (λ y. sum_below w (λ x. one (p x y))) (λ y. sum_below w (λ x. one (q x y)))
      (λ y. sum_cong w (λ x. one (p x y)) (λ x. one (q x y)) (λ x. ap one (e x y)))

  -- each point that passes the first test passes exactly one of the two others
  pub points_apart : (p q r : ℕ → ℕ → Bool) → ((x y : ℕ) → one (p x y) ≡ one (q x y) + one (r x y)) → points w h p ≡ points w h q + points w h r
  unfolding points
  points_apart p q r e =
      sum_cong h (λ y. sum_below w (λ x. one (p x y))) (λ y. sum_below w (λ x. one (q x y)) + sum_below w (λ x. one (r x y)))
      (λ y. sum_cong w (λ x. one (p x y)) (λ x. one (q x y) + one (r x y)) (λ x. e x y) ∙ sum_add w (λ x. one (q x y)) (λ x. one (r x y)))
      ∙ sum_add h (λ y. sum_below w (λ x. one (q x y))) (λ y. sum_below w (λ x. one (r x y)))

  pub points_none : (p : ℕ → ℕ → Bool) → ((x y : ℕ) → p x y ≡ false) → points w h p ≡ 0
  unfolding points
  points_none p e =
      sum_none h (λ y. sum_below w (λ x. one (p x y))) (λ y. sum_none w (λ x. one (p x y)) (λ x. ap one (e x y)))

  at_most_one : (b : Bool) → one b ≤ 1
  at_most_one true = omega arith
  at_most_one false = omega arith

  pub points_most : (p : ℕ → ℕ → Bool) → points w h p ≤ h * (w * 1)
  unfolding points
  points_most p =
      sum_most h (w * 1) (λ y. sum_below w (λ x. one (p x y))) (λ y. sum_most w 1 (λ x. one (p x y)) (λ x. at_most_one (p x y)))

-- ---- the points of a rectangle

count_step : (a b n : ℕ) → one (within a b n) + (min n b - a) ≡ min (suc n) b - a
count_step a b n = go (leb a n) refl (ltb n b) refl
  where
    go : (u : Bool) → leb a n ≡ u → (v : Bool) → ltb n b ≡ v → one (both u v) + (min n b - a) ≡ min (suc n) b - a
    go true e true f = omega (arith, leb-true a n e, ltb-true n b f)
    go true e false f = omega (arith, leb-true a n e, ltb-false n b f)
    go false e true f = omega (arith, leb-false a n e, ltb-true n b f)
    go false e false f = omega (arith, leb-false a n e, ltb-false n b f)

count_within : (a b n : ℕ) → sum_below n (λ k. one (within a b k)) ≡ min n b - a
unfolding sum_below
count_within a b zero = omega arith
count_within a b (suc n) = omega (arith, count_within a b n, count_step a b n)

row_count : (w l r : ℕ) (t : Bool) → sum_below w (λ x. one (both t (within l r x))) ≡ one t * (min w r - l)
row_count w l r true = count_within l r w ∙ sym (one-mul (min w r - l))
row_count w l r false = sum_none w (λ x. 0) (λ x. refl) ∙ sym (zero-mul (min w r - l))

pub points_inside : (w h : ℕ) (q : Rect) → points w h (inside q) ≡ (min h q.bottom - q.top) * (min w q.right - q.left)
unfolding points inside
points_inside w h q =
    let wide = min w q.right - q.left in
    sum_cong h (λ y. sum_below w (λ x. one (inside q x y))) (λ y. one (within q.top q.bottom y) * wide)
    (λ y. row_count w q.left q.right (within q.top q.bottom y))
    ∙ sum_times h wide (within q.top q.bottom)
    ∙ ap (λ (n : ℕ). n * wide) (count_within q.top q.bottom h)
