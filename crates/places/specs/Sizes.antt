-- How many holders and places there are, and the bytes of their memory. Assumes nothing.
use Rattle.std.specs.Prelude.{ℕ}

-- cells of the icon cache
abbrev pub cell_count : ℕ
cell_count = 12

-- slots of records, and the icons of each
abbrev pub slot_count : ℕ
slot_count = 48

abbrev pub icons_each : ℕ
icons_each = 3

-- icons of records: slot_count times icons_each
abbrev pub icon_count : ℕ
icon_count = 144

-- cells and icons
abbrev pub holder_count : ℕ
holder_count = 156

-- pointers that are marked together: those of the cells, or of four records
abbrev pub group_size : ℕ
group_size = 12

-- the number of places, then a pointer for each holder
abbrev pub holders_length : ℕ
holders_length = 157

-- where the pointers of icons begin
abbrev pub icons_at : ℕ
icons_at = 13

-- the number of places
abbrev pub fewest_places : ℕ
fewest_places = 12

abbrev pub most_places : ℕ
most_places = 64

-- pointers that there may be: none, or one of the places
abbrev pub pointer_count : ℕ
pointer_count = 65
