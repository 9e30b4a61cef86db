-- Places that are known to be pointed at. Assumes nothing.
use Rattle.std.specs.Prelude.{ℕ, ◌<◌, ◌≡◌, false, List}
use Rattle.places.specs.Sizes.{holder_count}
use Rattle.places.specs.Memory.{pointer_at, is_free}

-- each of the first n places is pointed at
abbrev pub HeldBelow : List ℕ → ℕ → Type 0
HeldBelow b n = (p : ℕ) → p < n → is_free holder_count (pointer_at b) p ≡ false
