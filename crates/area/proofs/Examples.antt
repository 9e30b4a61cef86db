-- Worked examples, counted point by point. Assumes nothing.
use mathlib.Core.Path.{◌≡◌, refl, ◌∙◌}
use mathlib.Core.List.{List, [], ◌∷◌, ◌++◌, map}
use Prim.Native.Nat.{ℕ, zero, suc, ◌<◌, ◌≤◌}
use native.Mathlib.Omega.{arith}
use Rattle.wire.specs.Numbers.{num_at, bytes_of}
use Rattle.area.specs.Area.{sum_below, points, any_below, inside, listed, covered, area_of, rect_at}
use Rattle.area.proofs.Range.{area_held}

rect : ℕ → ℕ → ℕ → ℕ → List ℕ
rect left top right bottom = bytes_of 2 left ++ (bytes_of 2 top ++ (bytes_of 2 right ++ bytes_of 2 bottom))

-- the request's example
pub two : List ℕ
two = 2 ∷ 0 ∷ rect 0 0 10 10 ++ rect 5 5 15 15

two_held : (i : ℕ) → i < listed two → ((rect_at two i).right ≤ 15) × ((rect_at two i).bottom ≤ 15)
unfolding two rect bytes_of listed rect_at num_at
two_held zero h = (omega arith, omega arith)
two_held (suc zero) h = (omega arith, omega arith)
two_held (suc (suc i)) h = absurd (omega arith)

pub two_are_175 : area_of two ≡ 175
unfolding two rect bytes_of listed rect_at num_at points sum_below any_below inside
two_are_175 = area_held two 15 15 (omega arith) (omega arith) two_held ∙ refl

-- a list and its points below 6 and 6
record Case : Type 0 where
  list : List ℕ
  counted : ℕ

case : List ℕ → ℕ → Case
case s n = record { list = s; counted = n }

cases : List Case
cases =
    case [] 0
    ∷ case (0 ∷ 0 ∷ []) 0
    -- a whole rectangle, one that is given twice, and one inside another
    ∷ case (1 ∷ 0 ∷ rect 1 1 4 3) 6
    ∷ case (2 ∷ 0 ∷ rect 1 1 4 3 ++ rect 1 1 4 3) 6
    ∷ case (2 ∷ 0 ∷ rect 0 0 5 5 ++ rect 1 1 4 3) 25
    -- two that touch, and two that overlap
    ∷ case (2 ∷ 0 ∷ rect 0 0 2 2 ++ rect 2 0 4 2) 8
    ∷ case (2 ∷ 0 ∷ rect 0 0 3 3 ++ rect 2 2 5 5) 17
    -- left not below right, top not below bottom
    ∷ case (2 ∷ 0 ∷ rect 4 0 1 5 ++ rect 0 0 1 1) 1
    ∷ case (2 ∷ 0 ∷ rect 0 3 5 3 ++ rect 0 0 1 1) 1
    -- cut short by a byte; a count over 16
    ∷ case (1 ∷ 0 ∷ 0 ∷ 0 ∷ 0 ∷ 0 ∷ 3 ∷ 0 ∷ 3 ∷ []) 0
    ∷ case (17 ∷ 0 ∷ rect 0 0 3 3) 0
    ∷ []

cases_counted : map (λ (c : Case). points 6 6 (covered c.list)) cases ≡ map (λ (c : Case). c.counted) cases
unfolding cases case rect bytes_of listed rect_at num_at points sum_below any_below inside
cases_counted = refl
