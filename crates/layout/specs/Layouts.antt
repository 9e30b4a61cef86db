-- Records and pictures in fixed layouts: each field at a fixed place with room for the most that it may take, zeros after its
-- end. A window has two records, of its older and of its newer fields. Assumes nothing.
use Rattle.std.specs.Prelude.{ℕ, ◌+◌, ◌≡◌, List, [], ◌∷◌, ◌++◌, length, take, drop}
use Rattle.wire.specs.Parts.{slice, padded}
use Rattle.rows.specs.declared.Row.{Row}
use Rattle.rows.specs.Rows.{rows_from, room_of}
use Rattle.body.specs.Bodies.{Body, window_fields, notification_fields, desktop_fields, first, rest, field_in, body_of}
use Rattle.body.specs.Stores.{room_all}
use Rattle.cache.specs.Cells.{picture_of}

-- the bytes of a window's older and newer fields, a notification icon, the desktop state and a picture (`SizesHold`)
abbrev pub window_size : ℕ
window_size = 850

abbrev pub newer_size : ℕ
newer_size = 544

abbrev pub notification_size : ℕ
notification_size = 916

abbrev pub desktop_size : ℕ
desktop_size = 263

abbrev pub picture_size : ℕ
picture_size = 4235

-- a window's newer fields stand after its older ones and two pictures
abbrev pub newer_start : ℕ
newer_start = window_size + (picture_size + picture_size)

-- the field of a row, in its place at index off
abbrev pub field_at : Row → List ℕ → ℕ → List ℕ
field_at r slot off = field_in r (slice slot off (room_of r))

unfoldable pub field_bytes : Row → List ℕ → ℕ → List ℕ
field_bytes r slot off = padded 0 (room_of r) (field_at r slot off)

unfoldable pub fields_bytes : List Row → List (List ℕ) → List ℕ
fields_bytes [] fs = []
fields_bytes (r ∷ rs) fs = padded 0 (room_of r) (first fs) ++ fields_bytes rs (rest fs)

-- the two marks, then the fields
unfoldable pub record_bytes : List Row → Body → List ℕ
record_bytes rows b = b.first ∷ b.second ∷ fields_bytes rows b.fields

-- TS_ICON_INFO from Bpp on
unfoldable pub picture_bytes : List ℕ → List ℕ
picture_bytes p = padded 0 picture_size p

-- ---- a window: an order carries its newer fields between the older ones and after them

abbrev pub older_fields : List Row
older_fields = rows_from 1 7 ++ rows_from 9 17

abbrev pub newer_fields : List Row
newer_fields = rows_from 7 9 ++ rows_from 17 22

abbrev pub older_of : List (List ℕ) → List (List ℕ)
older_of fs = take 6 fs ++ take 8 (drop 8 fs)

abbrev pub newer_of : List (List ℕ) → List (List ℕ)
newer_of fs = take 2 (drop 6 fs) ++ drop 16 fs

-- its two records: the older fields with its marks, the newer ones with marks that are 0
abbrev pub older_part : Body → Body
older_part b = record { first = b.first; second = b.second; fields = older_of b.fields }

abbrev pub newer_part : Body → Body
newer_part b = record { first = 0; second = 0; fields = newer_of b.fields }

-- two marks and the rooms of the fields
pub record SizesHold : Type 0 where
  pub window : 2 + room_all older_fields ≡ window_size
  pub newer : 2 + room_all newer_fields ≡ newer_size
  pub notification : 2 + room_all notification_fields ≡ notification_size
  pub desktop : 2 + room_all desktop_fields ≡ desktop_size

-- ---- nothing is lost

-- a record has its two marks and a place for each field, and reads as the body that it was made of, also before more
pub record KeepsRecord (rows : List Row) (b : Body) : Type 0 where
  pub long : length (record_bytes rows b) ≡ 2 + room_all rows
  pub back : body_of rows (record_bytes rows b) ≡ b
  pub before : (more : List ℕ) → body_of rows (record_bytes rows b ++ more) ≡ b

-- the layout of the picture in a cell begins with it, and its numbers say where it ends
pub record KeepsPicture (cell : List ℕ) : Type 0 where
  pub long : length (picture_bytes (picture_of cell)) ≡ picture_size
  pub back : take (length (picture_of cell)) (picture_bytes (picture_of cell)) ≡ picture_of cell
  pub read : picture_of (0 ∷ 0 ∷ 0 ∷ picture_bytes (picture_of cell)) ≡ picture_of cell

-- the two parts of a window's fields tell them
unfoldable pub PartsTell : Type 0
PartsTell =
    (fs gs : List (List ℕ)) → length fs ≡ length window_fields → length gs ≡ length window_fields → older_of fs ≡ older_of gs → newer_of fs ≡ newer_of gs → fs ≡ gs
