-- What the private functions say: the points of a box, which is a rectangle or a piece of one, that the first rectangles leave
-- uncovered. Assumes nothing.
use Rattle.std.specs.Prelude.{ℕ, ◌-◌, ◌≤◌, ◌<◌, ◌≡◌, Bool, true, not, List, [], ◌∷◌, ltb}
use Rattle.wire.specs.Tests.{both, all}
use Rattle.area.specs.declared.Rect.{Rect}
use Rattle.area.specs.Area.{points, inside, rect_at, covered_by, side}

-- how many points are covered by the first n rectangles
unfoldable pub area_by : List ℕ → ℕ → ℕ
area_by s n = points side side (covered_by s n)

-- how many points of a box are not covered by the first n rectangles
unfoldable pub left_over : List ℕ → ℕ → Rect → ℕ
left_over s n q = points side side (λ x y. both (inside q x y) (not (covered_by s n x y)))

-- no count is higher: side times side
abbrev pub most_points : ℕ
most_points = 4294967296

abbrev pub box : ℕ → ℕ → ℕ → ℕ → Rect
box l t r b = record { left = l; top = t; right = r; bottom = b }

-- a box, which has points, and a rectangle have one in common
abbrev pub meets : Rect → Rect → Bool
meets q p =
    all (ltb p.left p.right ∷ ltb p.top p.bottom ∷ ltb p.top q.bottom ∷ ltb q.top p.bottom ∷ ltb p.left q.right ∷ ltb q.left p.right ∷ [])

-- of the first n rectangles, those from number k on leave the box alone, and the one before meets it
pub record Met (s : List ℕ) (n : ℕ) (q : Rect) (k : ℕ) : Type 0 where
  pub below : k ≤ n
  pub same : left_over s n q ≡ left_over s k q
  pub hit : 0 < k → meets q (rect_at s (k - 1)) ≡ true
