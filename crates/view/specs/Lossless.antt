-- The typed views lose nothing: records that are valid and are shown alike are the same. And the bytes that a lookup hands
-- out are shown as the record they were made of. Assumes nothing.
use Rattle.std.specs.Prelude.{ℕ, ◌+◌, ◌≤◌, ◌≡◌, true, List, [], ◌∷◌, ◌++◌, length}
use Rattle.wire.specs.Numbers.{Bytes}
use Rattle.rows.specs.declared.Row.{Row}
use Rattle.rows.specs.Rows.{rows_from}
use Rattle.body.specs.Bodies.{Body, window_fields, notification_fields, desktop_fields, body_of, body_ok}
use Rattle.body.specs.Stores.{room_all}
use Rattle.cache.specs.Cells.{cell_ok, picture_of}
use Rattle.layout.specs.Valid.{ValidFields, ValidBody}
use Rattle.layout.specs.Layouts.{picture_size, older_fields, newer_fields, older_of, newer_of, record_bytes, picture_bytes}
use Rattle.view.specs.Views.{WindowParts, window_in, window_of, notification_of, desktop_of, head_size, picture_view}

-- ---- valid

-- a list of bytes for each field
abbrev pub BytesEach : List (List ℕ) → Type 0
BytesEach [] = Unit {0}
BytesEach (f ∷ fs) = Bytes f × BytesEach fs

pub record ValidRecord (rows : List Row) (m n : ℕ) (b : Body) : Type 0 where
  pub body : ValidBody rows m n b
  pub bytes : BytesEach b.fields

pub record ValidWindow (w : WindowParts) : Type 0 where
  pub older : ValidRecord older_fields 1 1 w.older
  pub newer : ValidRecord newer_fields 1 0 w.newer

-- the two records of a window with these marks and fields
abbrev pub window_parts : ℕ → ℕ → ℕ → List (List ℕ) → WindowParts
window_parts small big overlay fs =
    record { older = record { first = small; second = big; fields = older_of fs }; newer = record { first = overlay; second = 0; fields = newer_of fs } }

-- the bytes of a picture's mask, color table and color
abbrev pub content_size : List ℕ → ℕ
content_size p = (picture_view p).mask + (picture_view p).table + (picture_view p).color

-- a picture is as long as its numbers say
pub record ValidPicture (p : List ℕ) : Type 0 where
  pub bytes : Bytes p
  pub long : length p ≡ head_size p + content_size p
  pub few : content_size p ≤ 4224

-- memory that meets the rule holds such records and pictures
pub record MemoryValid : Type 0 where
  pub body : (low high m n : ℕ) (slot : List ℕ) → Bytes slot → 2 + room_all (rows_from low high) ≤ length slot → body_ok (rows_from low high) m n slot ≡ true
      → ValidRecord (rows_from low high) m n (body_of (rows_from low high) slot)
  pub window : (small big overlay : ℕ) (fs : List (List ℕ)) → small ≤ 1 → big ≤ 1 → overlay ≤ 1 → ValidFields window_fields fs → BytesEach fs
      → ValidWindow (window_parts small big overlay fs)
  pub picture : (cell : List ℕ) → Bytes cell → 4240 ≤ length cell → cell_ok cell ≡ true → ValidPicture (picture_of cell)

-- ---- nothing is lost

abbrev pub LosesNothing : {A B : Type 0} → (A → Type 0) → (A → B) → Type 0
LosesNothing {A} Valid view = (a b : A) → Valid a → Valid b → view a ≡ view b → a ≡ b

pub record ViewsLoseNothing : Type 0 where
  pub window : LosesNothing ValidWindow window_of
  pub notification : LosesNothing (ValidRecord notification_fields 1 0) notification_of
  pub desktop : LosesNothing (ValidRecord desktop_fields 1 1) desktop_of
  pub picture : LosesNothing ValidPicture picture_view

-- ---- what is handed out is shown as what the table has

pub record ShownAsHeld : Type 0 where
  pub window : (a b : Body) (pictures more : List ℕ) → ValidBody older_fields 1 1 a → ValidBody newer_fields 1 0 b → length pictures ≡ picture_size + picture_size
      → window_of (window_in (record_bytes older_fields a ++ (pictures ++ (record_bytes newer_fields b ++ more)))) ≡ window_of (record { older = a; newer = b })
  pub notification : (b : Body) → ValidBody notification_fields 1 0 b → notification_of (body_of notification_fields (record_bytes notification_fields b)) ≡ notification_of b
  pub desktop : (b : Body) → ValidBody desktop_fields 1 1 b → desktop_of (body_of desktop_fields (record_bytes desktop_fields b)) ≡ desktop_of b
  pub picture : (p : List ℕ) → picture_view (picture_bytes p) ≡ picture_view p
