-- The area of a list of rectangles: how many points lie in at least one of them. Assumes nothing.
use Rattle.std.specs.Prelude.{ℕ, zero, suc, ◌+◌, ◌*◌, Bool, false, List, leb, ltb, length}
use Rattle.wire.specs.Tests.{pick, both, either}
use Rattle.wire.specs.Numbers.{num_at}
use Rattle.area.specs.declared.Rect.{Rect}

-- ---- counting

-- f 0 + f 1 + .. + f (n - 1)
unfoldable pub sum_below : ℕ → (ℕ → ℕ) → ℕ
sum_below zero f = 0
sum_below (suc n) f = sum_below n f + f n

-- 1 where a test holds, else 0
abbrev pub one : Bool → ℕ
one t = pick t 1 0

-- some number below n passes a test
unfoldable pub any_below : ℕ → (ℕ → Bool) → Bool
any_below zero p = false
any_below (suc n) p = either (any_below n p) (p n)

-- how many points (x, y) with x below w and y below h pass a test: row by row, one for each point that does
unfoldable pub points : ℕ → ℕ → (ℕ → ℕ → Bool) → ℕ
points w h p = sum_below h (λ y. sum_below w (λ x. one (p x y)))

-- ---- rectangles

-- from a on, b is outside
abbrev pub within : ℕ → ℕ → ℕ → Bool
within a b x = both (leb a x) (ltb x b)

-- the point (x, y) lies in the rectangle; none lies in one whose left is not below its right, or whose top is not below its bottom
unfoldable pub inside : Rect → ℕ → ℕ → Bool
inside q x y = both (within q.top q.bottom y) (within q.left q.right x)

-- ---- a list: a count of 2 bytes, and 8 bytes for each rectangle, numbered from 0

-- the bytes of a list of n rectangles; rectangle n of a longer one begins there
abbrev pub list_length : ℕ → ℕ
list_length n = 2 + 8 * n

unfoldable pub rect_at : List ℕ → ℕ → Rect
rect_at s i =
    record { left = num_at 2 s (list_length i); top = num_at 2 s (list_length i + 2); right = num_at 2 s (list_length i + 4); bottom = num_at 2 s (list_length i + 6) }

abbrev pub most_rects : ℕ
most_rects = 16

-- how many rectangles it lists: what its count says; a list whose count is over 16, or that ends before its last rectangle does, lists none
unfoldable pub listed : List ℕ → ℕ
listed s = pick (both (leb (num_at 2 s 0) most_rects) (leb (list_length (num_at 2 s 0)) (length s))) (num_at 2 s 0) 0

-- one of the first n rectangles contains the point
abbrev pub covered_by : List ℕ → ℕ → ℕ → ℕ → Bool
covered_by s n x y = any_below n (λ i. inside (rect_at s i) x y)

abbrev pub covered : List ℕ → ℕ → ℕ → Bool
covered s x y = covered_by s (listed s) x y

-- coordinates of 2 bytes are below this. No rectangle reaches further: `Range` of proofs/ shows that any wider range gives the same
abbrev pub side : ℕ
side = 65536

-- how many points are covered
unfoldable pub area_of : List ℕ → ℕ
area_of s = points side side (covered s)
