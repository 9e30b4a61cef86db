-- What the private functions answer. Assumes nothing.
use Rattle.std.specs.Prelude.{ℕ, ◌<◌, ◌≡◌, Bool, List, [], ◌∷◌, eqb, leb, get_or}
use Rattle.wire.specs.Tests.{all}
use Rattle.wire.specs.Numbers.{num_at}
use Rattle.places.specs.Counts.{each_below}
use Rattle.places.specs.Memory.{count_at}
use Rattle.places.specs.Sizes.{pointer_count}

-- the pointers of a group are all none, four at a time
abbrev pub none_of : List ℕ → Bool
none_of s = all (eqb (num_at 4 s 0) 0 ∷ eqb (num_at 4 s 4) 0 ∷ eqb (num_at 4 s 8) 0 ∷ [])

-- a pointer at a place is marked where one of the first n holders has it; a mark of none says nothing
abbrev pub Marked : (ℕ → ℕ) → ℕ → List ℕ → Type 0
Marked ptr n marks = (v : ℕ) → 0 < v → v < pointer_count → eqb (get_or marks v 0) 0 ≡ eqb (count_at n ptr v) 0

-- m is the largest pointer of the first n holders
abbrev pub Most : (ℕ → ℕ) → ℕ → ℕ → Type 0
Most ptr n m = (k : ℕ) → each_below n (λ h. leb (ptr h) k) ≡ leb m k
