-- The request's window, shown, minimized and hidden; its figure as bytes, and a total past 4 bytes. Assumes nothing.
use mathlib.Core.Path.{◌≡◌, refl}
use mathlib.Core.List.{[], ◌∷◌, map}
use Prim.Native.Nat.{ℕ}
use Rattle.wire.specs.Numbers.{num_at, bytes_of}
use Rattle.body.specs.Bodies.{Body}
use Rattle.area.specs.Area.{one}
use Rattle.area.proofs.Examples.{two, two_are_175}
use Rattle.figure.specs.Figure.{field_with, is_shown, pixels_of, figure_bytes}

-- with this show state and the rectangles 0, 0, 10, 10 and 5, 5, 15, 15
abbrev window : ℕ → Body
window state =
    record { first = 0; second = 0; fields = [] ∷ [] ∷ (state ∷ []) ∷ [] ∷ [] ∷ [] ∷ [] ∷ [] ∷ [] ∷ [] ∷ [] ∷ [] ∷ [] ∷ [] ∷ [] ∷ two ∷ [] }

shown : map (λ (state : ℕ). one (is_shown (window state))) (5 ∷ 3 ∷ 2 ∷ 0 ∷ []) ≡ 1 ∷ 1 ∷ 1 ∷ 0 ∷ []
unfolding is_shown field_with num_at
shown = refl

shown_175 : pixels_of (window 5) ≡ 175
unfolding pixels_of is_shown field_with num_at
shown_175 = two_are_175

minimized_175 : pixels_of (window 2) ≡ 175
unfolding pixels_of is_shown field_with num_at
minimized_175 = two_are_175

hidden_none : pixels_of (window 0) ≡ 0
unfolding pixels_of is_shown field_with num_at
hidden_none = refl

one_window : figure_bytes (record { windows = 1; pixels = 175 }) ≡ 1 ∷ 0 ∷ 0 ∷ 0 ∷ 175 ∷ 0 ∷ 0 ∷ 0 ∷ 0 ∷ 0 ∷ 0 ∷ 0 ∷ []
unfolding figure_bytes bytes_of
one_window = refl

-- 32 windows of 65,535 by 65,535 points
all_windows : figure_bytes (record { windows = 32; pixels = 137434759200 }) ≡ 32 ∷ 0 ∷ 0 ∷ 0 ∷ 32 ∷ 0 ∷ 192 ∷ 255 ∷ 31 ∷ 0 ∷ 0 ∷ 0 ∷ []
unfolding figure_bytes bytes_of
all_windows = refl
