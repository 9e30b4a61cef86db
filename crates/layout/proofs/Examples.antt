-- The desktop state, a window and a picture, byte by byte. Assumes nothing.
use mathlib.Core.Path.{◌≡◌, refl}
use mathlib.Core.Bool.{true}
use mathlib.Core.List.{List, [], ◌∷◌, ◌++◌}
use Prim.Native.Nat.{ℕ}
use lib.ListN.{replicate}
use Rattle.wire.specs.Numbers.{num_at}
use Rattle.wire.specs.Parts.{slice, padded}
use Rattle.rows.specs.Rows.{len_of, first_of, ok_of}
use Rattle.order.specs.Icons.{parts_of}
use Rattle.body.specs.Bodies.{window_fields, desktop_fields, field_in, fields_of, fields_ok, body_of, body_ok}
use Rattle.cache.specs.Cells.{picture_of, cell_ok}
use Rattle.layout.specs.Layouts.{older_fields, newer_fields, older_part, newer_part, fields_bytes, record_bytes, picture_bytes}

-- hooked and not syncing; active window 00020052; one id in the stacking list, where two stood before
abbrev desktop : List ℕ
desktop =
    0x01 ∷ 0x00 ∷ 0x52 ∷ 0x00 ∷ 0x02 ∷ 0x00 ∷ 0x01 ∷ 0x52 ∷ 0x00 ∷ 0x02 ∷ 0x00 ∷ 0x34 ∷ 0x00 ∷ 0x01 ∷ 0x00
    ∷ replicate 901 0

desktop_ok : body_ok desktop_fields 1 1 desktop ≡ true
unfolding body_ok fields_ok ok_of first_of num_at
desktop_ok = refl

-- the second id is not handed out
desktop_laid : record_bytes desktop_fields (body_of desktop_fields desktop)
    ≡ 0x01 ∷ 0x00 ∷ 0x52 ∷ 0x00 ∷ 0x02 ∷ 0x00 ∷ 0x01 ∷ 0x52 ∷ 0x00 ∷ 0x02 ∷ 0x00 ∷ replicate 252 0
unfolding record_bytes fields_bytes padded body_of fields_of field_in len_of first_of num_at slice
desktop_laid = refl

-- a window with the title "A", where "AC" stood before, left margin 7, right margin 8, the overlay description "B", where "BD" stood
-- before, and edge 3: owner at index 2, styles at 6, show state at 14, title at 15, margins at 553, description at 866, edge at 1391
abbrev window : List ℕ
window =
    0x00 ∷ 0x03
    ∷ replicate 12 0
    ++ (0x05 ∷ 0x02 ∷ 0x00 ∷ 0x41 ∷ 0x00 ∷ 0x43 ∷ 0x00
    ∷ replicate 532 0
    ++ (0x07 ∷ 0x00 ∷ 0x00 ∷ 0x00 ∷ 0x08 ∷ 0x00 ∷ 0x00 ∷ 0x00
    ∷ replicate 305 0
    ++ (0x02 ∷ 0x00 ∷ 0x42 ∷ 0x00 ∷ 0x44 ∷ 0x00
    ∷ replicate 519 0
    ++ (0x03 ∷ []))))

window_ok : body_ok window_fields 12 12 window ≡ true
unfolding body_ok fields_ok ok_of first_of num_at
window_ok = refl

older_laid : record_bytes older_fields (older_part (body_of window_fields window))
    ≡ 0x00 ∷ 0x03 ∷ replicate 12 0 ++ (0x05 ∷ 0x02 ∷ 0x00 ∷ 0x41 ∷ 0x00 ∷ replicate 831 0)
unfolding record_bytes fields_bytes padded body_of fields_of field_in len_of first_of num_at slice
older_laid = refl

newer_laid : record_bytes newer_fields (newer_part (body_of window_fields window))
    ≡ 0x00 ∷ 0x00 ∷ 0x07 ∷ 0x00 ∷ 0x00 ∷ 0x00 ∷ 0x08 ∷ 0x00 ∷ 0x00 ∷ 0x00
    ∷ replicate 8 0
    ++ (0x02 ∷ 0x00 ∷ 0x42 ∷ 0x00 ∷ replicate 521 0 ++ (0x03 ∷ []))
unfolding record_bytes fields_bytes padded body_of fields_of field_in len_of first_of num_at slice
newer_laid = refl

-- a picture of 1 by 1 at 16 bits, mask of 2 bytes, color of 2; what an earlier picture left after it is not handed out
abbrev cell : List ℕ
cell =
    0x00 ∷ 0x00 ∷ 0x00 ∷ 0x10 ∷ 0x01 ∷ 0x00 ∷ 0x01 ∷ 0x00 ∷ 0x02 ∷ 0x00 ∷ 0x02 ∷ 0x00 ∷ 0x80 ∷ 0x00 ∷ 0xFF ∷ 0x7F ∷ 0x99
    ∷ replicate 4223 0

cell_ok_lem : cell_ok cell ≡ true
unfolding cell_ok parts_of num_at
cell_ok_lem = refl

picture_laid : picture_bytes (picture_of cell)
    ≡ 0x10 ∷ 0x01 ∷ 0x00 ∷ 0x01 ∷ 0x00 ∷ 0x02 ∷ 0x00 ∷ 0x02 ∷ 0x00 ∷ 0x80 ∷ 0x00 ∷ 0xFF ∷ 0x7F ∷ replicate 4222 0
unfolding picture_bytes padded picture_of parts_of num_at slice
picture_laid = refl
