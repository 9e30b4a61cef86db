-- What orders change in the memory of the holders. Assumes nothing.
use Rattle.std.specs.Prelude.{ℕ, ◌+◌, List, [], ◌∷◌, eqb, set, replicate, Option}
use Rattle.wire.specs.Tests.{pick}
use Rattle.wire.specs.Parts.{splice}
use Rattle.places.specs.Counts.{first_from, on_found}
use Rattle.places.specs.Sizes.{holder_count, icon_count, icons_at}
use Rattle.places.specs.Memory.{places_of, pointer_at, is_free}

-- pointers with that of holder h replaced
abbrev pub put : (ℕ → ℕ) → ℕ → ℕ → ℕ → ℕ
put ptr h v g = pick (eqb g h) v (ptr g)

abbrev pub let_go : List ℕ → (ℕ → ℕ) → ℕ → ℕ
let_go [] ptr = ptr
let_go (h ∷ hs) ptr = let_go hs (put ptr h 0)

unfoldable pub point_to : List ℕ → ℕ → ℕ → List ℕ
point_to b h v = set b (h + 1) v

abbrev pub point_all : List ℕ → List ℕ → ℕ → List ℕ
point_all b [] v = b
point_all b (h ∷ hs) v = point_all (point_to b h v) hs v

-- the first place that nobody but these holders points at
unfoldable pub free_place : List ℕ → List ℕ → Option ℕ
free_place b hs = first_from (places_of b) 0 (is_free holder_count (let_go hs (pointer_at b)))

-- an icon: its holders, its cell and its pointer or the pointer alone, take that place; where there is none, nothing changes
unfoldable pub take_of : List ℕ → List ℕ → List ℕ
take_of b hs = on_found (free_place b hs) b (λ p. point_all b hs (p + 1))

-- a cached icon: its pointer shares its cell's place
unfoldable pub share_of : List ℕ → ℕ → ℕ → List ℕ
share_of b pointer cell = point_to b pointer (pointer_at b cell)

unfoldable pub release_of : List ℕ → ℕ → List ℕ
release_of b h = point_to b h 0

-- holders let go one after the other: the three icons of a record that is deleted
abbrev pub release_all_of : List ℕ → List ℕ → List ℕ
release_all_of b [] = b
release_all_of b (h ∷ hs) = release_all_of (release_of b h) hs

-- no record's icon points at a place
unfoldable pub release_records_of : List ℕ → List ℕ
release_records_of b = splice b icons_at (replicate icon_count 0)
