-- The fields of an order in carried order, after the header's 7 bytes: each single number is one, and so is each whole run of string or
-- picture bytes. A field begins where the one before it ends, the first at index 7. Assumes nothing.
use Rattle.std.specs.Prelude.{ℕ, ◌+◌, ◌-◌, ◌/◌, Bool, true, List, [], ◌∷◌, ◌++◌, eqb, leb, length, replicate}
use Rattle.wire.specs.Tests.{pick, both, has, has_all}
use Rattle.wire.specs.Numbers.{num_at}
use Rattle.protocol.specs.Flags.{flag_cached_icon, flag_icon}
use Rattle.rows.specs.declared.Row.{Row}
use Rattle.rows.specs.Rows.{len_of, ok_of}
use Rattle.order.specs.Icons.{tabled, entry_ok, cache_ok, bits_ok, side_ok}
use Rattle.order.specs.Judge.{flags_of, kind_rows}

-- its bytes, and whether its number is in its set
pub record Field : Type 0 where
  pub width : ℕ
  pub in_set : Bool

abbrev pub number : ℕ → Bool → Field
number width in_set = record { width = width; in_set = in_set }

-- a number that may be any, and a run of bytes
abbrev pub any_number : ℕ → Field
any_number width = number width true

abbrev pub run : ℕ → Field
run bytes = number bytes true

-- ---- the fields of a row

-- after its first number: a run, or numbers of one width
unfoldable pub later_fields : Row → ℕ → List Field
later_fields r bytes = pick (eqb r.piece 65536) (run bytes ∷ []) (replicate (bytes / r.piece) (any_number r.piece))

-- of the row at index at
unfoldable pub row_fields : Row → List ℕ → ℕ → List Field
row_fields r s at = number r.head (ok_of r s at) ∷ later_fields r (len_of r s at - r.head)

-- of the flagged rows, one after the other from index at on
unfoldable pub rows_fields : List Row → ℕ → List ℕ → ℕ → List Field
rows_fields [] flags s at = []
rows_fields (r ∷ rs) flags s at =
    pick (has_all flags r.flag) (row_fields r s at ++ rows_fields rs flags s (at + len_of r s at)) (rows_fields rs flags s at)

-- ---- the fields of an icon or cached icon at index at

-- the lengths of color table, mask and color, then mask, color table and color; all are at most 4,224 bytes together, and the color's
-- length tells
abbrev pub tabled_fields : ℕ → ℕ → ℕ → List Field
tabled_fields table mask color =
    any_number 2 ∷ any_number 2 ∷ number 2 (leb (mask + table + color) 4224) ∷ run mask ∷ run table ∷ run color ∷ []

-- the same without a color table
abbrev pub plain_fields : ℕ → ℕ → List Field
plain_fields mask color = any_number 2 ∷ number 2 (leb (mask + color) 4224) ∷ run mask ∷ run color ∷ []

-- entry, cache id, bits per pixel, width, height, and what follows
abbrev pub begun : List ℕ → ℕ → List Field → List Field
begun s at rest =
    number 2 (entry_ok (num_at 2 s at) (num_at 1 s (at + 2)))
    ∷ number 1 (cache_ok (num_at 1 s (at + 2)))
    ∷ number 1 (bits_ok (num_at 1 s (at + 3)))
    ∷ number 2 (side_ok (num_at 2 s (at + 4)))
    ∷ number 2 (side_ok (num_at 2 s (at + 6)))
    ∷ rest

unfoldable pub icon_fields : List ℕ → ℕ → List Field
icon_fields s at =
    begun s at
    (pick (tabled (num_at 1 s (at + 3)))
    (tabled_fields (num_at 2 s (at + 8)) (num_at 2 s (at + 10)) (num_at 2 s (at + 12)))
    (plain_fields (num_at 2 s (at + 8)) (num_at 2 s (at + 10))))

-- entry, cache id
unfoldable pub cached_fields : List ℕ → ℕ → List Field
cached_fields s at = number 2 (leb (num_at 2 s at) 5) ∷ number 1 (leb (num_at 1 s (at + 2)) 1) ∷ []

unfoldable pub picture_fields : ℕ → List ℕ → ℕ → List Field
picture_fields flags s at = pick (has flags flag_icon) (icon_fields s at) (pick (has flags flag_cached_icon) (cached_fields s at) [])

-- ---- fields one after the other from index at on

-- where the last one ends
unfoldable pub end_of : ℕ → List Field → ℕ
end_of at [] = at
end_of at (f ∷ fs) = end_of (at + f.width) fs

-- each fits whole in n bytes
unfoldable pub all_fit : ℕ → ℕ → List Field → Bool
all_fit n at [] = true
all_fit n at (f ∷ fs) = both (leb (at + f.width) n) (all_fit n (at + f.width) fs)

-- where the first one begins that does not fit whole, or else where the last one ends
unfoldable pub first_cut : ℕ → ℕ → List Field → ℕ
first_cut n at [] = at
first_cut n at (f ∷ fs) = pick (leb (at + f.width) n) (first_cut n (at + f.width) fs) at

-- each is in its set
unfoldable pub all_in : List Field → Bool
all_in [] = true
all_in (f ∷ fs) = both f.in_set (all_in fs)

-- where the first one begins that is not in its set, 0 for none
unfoldable pub first_outside : ℕ → List Field → ℕ
first_outside at [] = 0
first_outside at (f ∷ fs) = pick f.in_set (first_outside (at + f.width) fs) at

-- ---- an order

-- the fields before the icon or cached icon, and where that begins
unfoldable pub plain_part : List ℕ → List Field
plain_part s = rows_fields (kind_rows (flags_of s)) (flags_of s) s 7

unfoldable pub icon_at : List ℕ → ℕ
icon_at s = end_of 7 (plain_part s)

unfoldable pub fields_of : List ℕ → List Field
fields_of s = plain_part s ++ picture_fields (flags_of s) s (icon_at s)
