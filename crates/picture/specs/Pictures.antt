-- Pictures at the places of a store (request No. 5): the head of each in state memory, 14 bytes as an icon carries them from its
-- entry on, its mask, color table and color in the place. Assumes nothing.
use Rattle.std.specs.Prelude.{ℕ, ◌+◌, ◌*◌, ◌-◌, Bool, List, ◌++◌, take, drop}
use Rattle.wire.specs.Parts.{slice, splice}
use Rattle.order.specs.Icons.{parts_of}
use Rattle.cache.specs.Cells.{cell_ok}
use Rattle.store.specs.Store.{place_at, put_at}

-- the bytes of a head
abbrev pub head_length : ℕ
head_length = 14

unfoldable pub head_at : List ℕ → ℕ → List ℕ
head_at heads p = slice heads (head_length * p) head_length

-- bits per pixel, sides, lengths; then mask, color table and color
unfoldable pub picture_from : List ℕ → List ℕ → List ℕ
picture_from head place = slice head 3 ((parts_of head 0).mask - 3) ++ take ((parts_of head 0).end - (parts_of head 0).mask) place

unfoldable pub picture_at : List ℕ → List (List ℕ) → ℕ → List ℕ
picture_at heads parts p = picture_from (head_at heads p) (place_at parts p)

-- the numbers of a head are in their sets, so its bytes fit the place
unfoldable pub head_ok : List ℕ → ℕ → Bool
head_ok heads p = cell_ok (head_at heads p)

-- ---- the icon at index icon of an order, put at place p: its numbers into the head, the rest of the order into the place

unfoldable pub heads_after_of : List ℕ → ℕ → List ℕ → ℕ → List ℕ
heads_after_of heads p s icon = splice heads (head_length * p) (slice s icon ((parts_of s icon).mask - icon))

unfoldable pub store_after : List (List ℕ) → ℕ → List ℕ → ℕ → List (List ℕ)
store_after parts p s icon = put_at parts p (drop (parts_of s icon).mask s)
