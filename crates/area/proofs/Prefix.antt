-- Bytes after a list's last rectangle do not count. Assumes nothing.
use mathlib.Core.Path.{◌≡◌, refl, ap, ◌∙◌}
use mathlib.Core.Bool.{Bool, true, false}
use mathlib.Core.List.{List}
use Prim.Native.Nat.{ℕ, zero, suc, ◌+◌, ◌≤◌, ◌<◌, min}
use native.Mathlib.Omega.{arith}
use lib.Dec.{leb}
use lib.ListN.{length, take, length-take}
use borrow.Author.Tests.{leb-true, leb-false, le-leb, lt-leb}
use Rattle.wire.specs.Tests.{pick, both}
use Rattle.wire.specs.Numbers.{num_at}
use Rattle.wire.proofs.Numbers.{num_take}
use Rattle.area.specs.declared.Rect.{Rect}
use Rattle.area.specs.Area.{any_below, inside, list_length, most_rects, rect_at, listed, covered_by, covered, side, area_of}
use Rattle.area.proofs.Counting.{points_same}

any_cong : (n : ℕ) (p q : ℕ → Bool) → ((i : ℕ) → i < n → p i ≡ q i) → any_below n p ≡ any_below n q
unfolding any_below
any_cong zero p q e = refl
any_cong (suc n) p q e = rw (any_cong n p q (λ i h. e i (omega arith)), e n (omega arith))

-- a list has no more rectangles than it counts
listed_most : (s : List ℕ) → listed s ≤ num_at 2 s 0
unfolding listed
listed_most s = go (both (leb (num_at 2 s 0) most_rects) (leb (list_length (num_at 2 s 0)) (length s)))
  where
    go : (t : Bool) → pick t (num_at 2 s 0) 0 ≤ num_at 2 s 0
    go true = omega arith
    go false = omega arith

-- the list's own bytes
module _ (s : List ℕ) where
  abbrev own : List ℕ
  own = take (list_length (num_at 2 s 0)) s

  own_count : num_at 2 own 0 ≡ num_at 2 s 0
  own_count = num_take 2 (list_length (num_at 2 s 0)) 0 s (omega arith)

  own_long : leb (list_length (num_at 2 s 0)) (length own) ≡ leb (list_length (num_at 2 s 0)) (length s)
  own_long = go (leb (list_length (num_at 2 s 0)) (length s)) refl
    where
      n : length own ≡ min (list_length (num_at 2 s 0)) (length s)
      n = length-take (list_length (num_at 2 s 0)) s

      go : (t : Bool) → leb (list_length (num_at 2 s 0)) (length s) ≡ t → leb (list_length (num_at 2 s 0)) (length own) ≡ t
      go true e = le-leb (list_length (num_at 2 s 0)) (length own) (omega (arith, n, leb-true (list_length (num_at 2 s 0)) (length s) e))
      go false e = lt-leb (list_length (num_at 2 s 0)) (length own) (omega (arith, n, leb-false (list_length (num_at 2 s 0)) (length s) e))

  own_listed : listed own ≡ listed s
  unfolding listed
  own_listed = rw (own_count, own_long)

  own_rect : (i : ℕ) → i < num_at 2 s 0 → rect_at own i ≡ rect_at s i
  unfolding rect_at
  own_rect i h =
      let m = list_length (num_at 2 s 0) in
      rw (
        num_take 2 m (list_length i) s (omega arith),
        num_take 2 m (list_length i + 2) s (omega arith),
        num_take 2 m (list_length i + 4) s (omega arith),
        num_take 2 m (list_length i + 6) s (omega arith),
      )

  own_covered : (x y : ℕ) → covered own x y ≡ covered s x y
  own_covered x y =
      ap (λ (n : ℕ). covered_by own n x y) own_listed
      ∙ any_cong (listed s) (λ i. inside (rect_at own i) x y) (λ i. inside (rect_at s i) x y)
      (λ i h. ap (λ (q : Rect). inside q x y) (own_rect i (omega (arith, listed_most s))))

  pub own_area : area_of own ≡ area_of s
  unfolding area_of
  own_area = points_same side side (covered own) (covered s) own_covered
