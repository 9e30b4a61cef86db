-- Text laid in a memory from a place on, and the place after it. What would pass the end of the memory is left out. Assumes nothing.
use Rattle.std.specs.Prelude.{ℕ, ◌+◌, ◌-◌, ◌≡◌, List, length, take}
use Rattle.wire.specs.Parts.{splice}

-- as much of the text as there is room for from index at on
unfoldable pub fitting : List ℕ → ℕ → List ℕ → List ℕ
fitting d at s = take (length d - at) s

unfoldable pub laid : List ℕ → ℕ → List ℕ → List ℕ
laid d at s = splice d at (fitting d at s)

unfoldable pub after : List ℕ → ℕ → List ℕ → ℕ
after d at s = at + length (fitting d at s)

-- the memory d, with the text s laid from index at on, is x, and n is the place after the text
pub record Laid (d : List ℕ) (at : ℕ) (s : List ℕ) (x : List ℕ) (n : ℕ) : Type 0 where
  pub memory : x ≡ laid d at s
  pub place : n ≡ after d at s
