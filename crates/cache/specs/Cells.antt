-- A cell holds an icon as an order carries it, from the bits per pixel on, at byte 3, so that its numbers stand where
-- `parts_of` of an icon looks for them. Assumes nothing.
use Rattle.std.specs.Prelude.{ℕ, ◌+◌, ◌-◌, Bool, List, [], ◌∷◌, leb, length}
use Rattle.wire.specs.Tests.{all}
use Rattle.wire.specs.Numbers.{num_at}
use Rattle.wire.specs.Parts.{slice}
use Rattle.order.specs.Icons.{parts_of, bits_ok, side_ok}

-- the picture in a filled cell: bits per pixel, sides, lengths, mask, color table, color
unfoldable pub picture_of : List ℕ → List ℕ
picture_of cell = slice cell 3 ((parts_of cell 0).end - 3)

-- its numbers are in their sets, so it lies within the cell; n bytes in mask, color table and color
abbrev pub numbers_ok : ℕ → ℕ → ℕ → ℕ → Bool
numbers_ok bits width height n = all (bits_ok bits ∷ side_ok width ∷ side_ok height ∷ leb n 4224 ∷ [])

unfoldable pub cell_ok : List ℕ → Bool
cell_ok cell = numbers_ok (num_at 1 cell 3) (num_at 2 cell 4) (num_at 2 cell 6) ((parts_of cell 0).end - (parts_of cell 0).mask)

-- what an icon at index icon, up to the order's end, carries of the picture
unfoldable pub carried_picture : List ℕ → ℕ → List ℕ
carried_picture s icon = slice s (icon + 3) (length s - (icon + 3))
