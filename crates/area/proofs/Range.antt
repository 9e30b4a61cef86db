-- No point outside 65,535 is covered, so any wider range gives the same area; and so does any that holds every rectangle. Assumes nothing.
use mathlib.Core.Path.{◌≡◌, refl, sym, ◌∙◌}
use mathlib.Core.Bool.{Bool, true, false}
use mathlib.Core.List.{List}
use Prim.Native.Nat.{ℕ, zero, suc, ◌+◌, ◌≤◌, ◌<◌}
use native.Mathlib.Omega.{arith}
use lib.Dec.{leb}
use borrow.Author.Tests.{leb-true, leb-false}
use Rattle.wire.specs.Tests.{either}
use Rattle.wire.specs.Numbers.{num_at}
use Rattle.wire.proofs.Numbers.{Bytes, num2_is}
use Rattle.area.specs.Area.{sum_below, one, points, any_below, inside, list_length, rect_at, listed, covered_by, covered, side, area_of}
use Rattle.area.specs.Cutting.{most_points}
use Rattle.area.proofs.Counting.{sum_cong, sum_none, points_most}
use Rattle.area.proofs.Boxes.{is_in_lem}

-- ---- a sum whose later terms are 0

sum_wide : (m n : ℕ) (f : ℕ → ℕ) → n ≤ m → ((k : ℕ) → n ≤ k → f k ≡ 0) → sum_below m f ≡ sum_below n f
unfolding sum_below
sum_wide zero n f h e =
    let z : n ≡ 0 = omega arith in
    rw z
sum_wide (suc m) n f h e = go (leb n m) refl (λ k. sum_wide m n f k e)
  where
    go : (t : Bool) → leb n m ≡ t → (n ≤ m → sum_below m f ≡ sum_below n f) → sum_below m f + f m ≡ sum_below n f
    go true q rest =
        let k = leb-true n m q in
        omega (arith, rest k, e m k)
    go false q rest =
        let z : n ≡ suc m = omega (arith, leb-false n m q) in
        rw z

module _ (p : ℕ → ℕ → Bool) (w h : ℕ) (held : (x y : ℕ) → p x y ≡ true → (x < w) × (y < h)) where
  right_of_all : (x y : ℕ) → w ≤ x → one (p x y) ≡ 0
  right_of_all x y k = go (p x y) refl
    where
      go : (t : Bool) → p x y ≡ t → one t ≡ 0
      go true e = absurd (omega (arith, held x y e))
      go false e = refl

  below_all : (x y : ℕ) → h ≤ y → one (p x y) ≡ 0
  below_all x y k = go (p x y) refl
    where
      go : (t : Bool) → p x y ≡ t → one t ≡ 0
      go true e = absurd (omega (arith, held x y e))
      go false e = refl

  pub points_wide : (v g : ℕ) → w ≤ v → h ≤ g → points v g p ≡ points w h p
  unfolding points
  points_wide v g i j =
      sum_cong g (λ y. sum_below v (λ x. one (p x y))) (λ y. sum_below w (λ x. one (p x y)))
      (λ y. sum_wide v w (λ x. one (p x y)) i (λ x k. right_of_all x y k))
      ∙ sum_wide g h (λ y. sum_below w (λ x. one (p x y))) j (λ y k. sum_none w (λ x. one (p x y)) (λ x. below_all x y k))

-- ---- how far a list reaches

module _ (s : List ℕ) (w h : ℕ) where
  pub reach : (n : ℕ) → ((i : ℕ) → i < n → ((rect_at s i).right ≤ w) × ((rect_at s i).bottom ≤ h)) → (x y : ℕ) → covered_by s n x y ≡ true → (x < w) × (y < h)
  unfolding any_below
  reach zero far x y e = let z : ◌≡◌ {A = ℕ} 0 1 = cc in absurd (omega arith)
  reach (suc n) far x y e = go (covered_by s n x y) refl e (reach n (λ i k. far i (omega arith)) x y)
    where
      go : (c : Bool) → covered_by s n x y ≡ c → either c (inside (rect_at s n) x y) ≡ true → (covered_by s n x y ≡ true → (x < w) × (y < h)) → (x < w) × (y < h)
      go true q t rest = rest q
      go false q t rest =
          let f = far n (omega arith) in
          let i = is_in_lem (rect_at s n) x y t in
          (omega arith, omega arith)

-- a list whose rectangles end at w and h at the latest: its area is that of the range
pub area_held : (s : List ℕ) (w h : ℕ) → w ≤ side → h ≤ side → ((i : ℕ) → i < listed s → ((rect_at s i).right ≤ w) × ((rect_at s i).bottom ≤ h))
    → area_of s ≡ points w h (covered s)
unfolding area_of
area_held s w h i j far = points_wide (covered s) w h (reach s w h (listed s) far) side side i j

-- no area is higher than the whole range
pub area_at_most : (s : List ℕ) → area_of s ≤ most_points
unfolding area_of
area_at_most s = points_most side side (covered s)

-- ---- what bytes can say

number_small : (s : List ℕ) (at : ℕ) → Bytes s → num_at 2 s at ≤ 65535
number_small s at b = omega (arith, num2_is s at, b.small at, b.small (at + 1))

-- nothing outside 65,535 is covered
pub nothing_outside : (s : List ℕ) → Bytes s → (x y : ℕ) → covered s x y ≡ true → (x < 65535) × (y < 65535)
unfolding rect_at
nothing_outside s b = reach s 65535 65535 (listed s) (λ i k. (number_small s (list_length i + 4) b, number_small s (list_length i + 6) b))

-- any wider range gives the same area
pub area_wider : (s : List ℕ) → Bytes s → (w h : ℕ) → 65535 ≤ w → 65535 ≤ h → points w h (covered s) ≡ area_of s
unfolding area_of
area_wider s b w h i j =
    points_wide (covered s) 65535 65535 (nothing_outside s b) w h i j
    ∙ sym (points_wide (covered s) 65535 65535 (nothing_outside s b) side side (omega arith) (omega arith))

-- the area fits 4 bytes
pub area_fits : (s : List ℕ) → Bytes s → area_of s < most_points
area_fits s b = omega (arith, area_wider s b 65535 65535 (omega arith) (omega arith), points_most 65535 65535 (covered s))
