-- The memory of the holders: byte 0 the number of places, byte 1 + h the pointer of holder h, 0 for none, else place + 1;
-- holders 0 to 11 are the cells of the icon cache, the others the icons of records. Who shares a place by it, and the rule
-- that it describes holders and places. Assumes nothing.
use Rattle.std.specs.Prelude.{ℕ, ◌+◌, ◌-◌, Bool, not, List, eqb, leb, ltb, length, get_or}
use Rattle.std.proofs.Math.Option.{Option, none, some}
use Rattle.wire.specs.Tests.{pick, both, either}
use Rattle.places.specs.Counts.{count_below, each_below}
use Rattle.places.specs.Sizes.{cell_count, holder_count, holders_length, fewest_places, most_places}
use Rattle.places.specs.Sharing.{Sharing}

abbrev pub is_cell : ℕ → Bool
is_cell h = ltb h cell_count

unfoldable pub places_of : List ℕ → ℕ
places_of b = get_or b 0 0

unfoldable pub pointer_at : List ℕ → ℕ → ℕ
pointer_at b h = pick (ltb h holder_count) (get_or b (h + 1) 0) 0

-- ---- who shares by m holders' pointers

-- how many of them have the pointer v
unfoldable pub count_at : ℕ → (ℕ → ℕ) → ℕ → ℕ
count_at m ptr v = count_below m (λ h. eqb (ptr h) v)

-- none points at place p
unfoldable pub is_free : ℕ → (ℕ → ℕ) → ℕ → Bool
is_free m ptr p = eqb (count_at m ptr (p + 1)) 0

abbrev pub shares_of : (ℕ → ℕ) → ℕ → ℕ → Bool
shares_of ptr g k = both (not (eqb (ptr g) 0)) (eqb (ptr g) (ptr k))

-- how many of n places are pointed at
unfoldable pub used_of : ℕ → (ℕ → ℕ) → ℕ → ℕ
used_of m ptr n = count_below n (λ p. not (is_free m ptr p))

unfoldable pub sharing_of : ℕ → (ℕ → ℕ) → ℕ → Sharing ℕ
sharing_of m ptr n =
    record {
      shares = shares_of ptr;
      users = λ g. pick (eqb (ptr g) 0) 0 (count_at m ptr (ptr g));
      used = used_of m ptr n;
      places = n;
    }

unfoldable pub decode : List ℕ → Sharing ℕ
decode b = sharing_of holder_count (pointer_at b) (places_of b)

-- ---- the rule

-- no two cells at one place
abbrev pub cells_apart : (ℕ → ℕ) → Bool
cells_apart ptr = each_below cell_count (λ c. each_below cell_count (λ d. either (eqb c d) (not (shares_of ptr c d))))

unfoldable pub valid : List ℕ → Bool
valid b =
    both (leb holders_length (length b))
    (both (both (leb fewest_places (places_of b)) (leb (places_of b) most_places))
    (both (each_below holder_count (λ h. leb (pointer_at b h) (places_of b)))
    (cells_apart (pointer_at b))))

-- ---- pictures

-- what a holder shows: the picture at its place
unfoldable pub shown_of : (ℕ → ℕ) → (ℕ → List ℕ) → ℕ → Option (List ℕ)
shown_of ptr pictures h = pick (eqb (ptr h) 0) none (some (pictures (ptr h - 1)))

unfoldable pub shown : List ℕ → (ℕ → List ℕ) → ℕ → Option (List ℕ)
shown b pictures = shown_of (pointer_at b) pictures

-- the pictures with another one at place p
unfoldable pub with_picture : (ℕ → List ℕ) → ℕ → List ℕ → ℕ → List ℕ
with_picture pictures p x q = pick (eqb q p) x (pictures q)
