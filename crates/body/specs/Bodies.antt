-- A record's body: two marks and the fields of its kind, each as an order carries it. In memory it has a slot: the two marks, then
-- each field at its own place with room for the most that it may take. Assumes nothing.
use Rattle.std.specs.Prelude.{ℕ, zero, suc, ◌+◌, ◌*◌, ◌-◌, ◌<◌, ◌≡◌, Bool, true, List, [], ◌∷◌, leb, ltb, length, get_or, take, replicate}
use Rattle.wire.specs.Tests.{pick, both, has_all}
use Rattle.wire.specs.Numbers.{num_at}
use Rattle.wire.specs.Parts.{slice}
use Rattle.rows.specs.declared.Row.{Row}
use Rattle.rows.specs.Rows.{no_row, rows_from, room_of, len_of, ok_of}

-- the fields of a kind in the one table of rows: the ids are the directory's
abbrev pub window_fields : List Row
window_fields = rows_from 1 22

abbrev pub notification_fields : List Row
notification_fields = rows_from 23 29

abbrev pub desktop_fields : List Row
desktop_fields = rows_from 29 31

-- The marks: of a window its small and its big icon, of a notification icon its icon and 0, of the desktop hooked and
-- syncing. An icon is 0 for none, else the number of its cell and 1.
pub record Body : Type 0 where
  pub first : ℕ
  pub second : ℕ
  pub fields : List (List ℕ)

-- ---- in memory

-- 32 slots of windows, then 16 of notification icons and one of the desktop state
abbrev pub slots_in_all : ℕ
slots_in_all = 49

-- the bytes of slot k, where it begins, and where the last one ends
unfoldable pub slot_length : ℕ → ℕ
slot_length k = pick (ltb k 32) 1392 916

unfoldable pub slot_start : ℕ → ℕ
slot_start k = pick (ltb k 32) (1392 * k) (44544 + 916 * (k - 32))

abbrev pub slots_end : ℕ
slots_end = 60116

unfoldable pub slot_of : List ℕ → ℕ → List ℕ
slot_of bodies k = slice bodies (slot_start k) (slot_length k)

-- a field in its place
unfoldable pub field_in : Row → List ℕ → List ℕ
field_in r place = take (len_of r place 0) place

unfoldable pub fields_of : List Row → ℕ → List ℕ → List (List ℕ)
fields_of [] off slot = []
fields_of (r ∷ rs) off slot = field_in r (slice slot off (room_of r)) ∷ fields_of rs (off + room_of r) slot

unfoldable pub body_of : List Row → List ℕ → Body
body_of rows slot = record { first = num_at 1 slot 0; second = num_at 1 slot 1; fields = fields_of rows 2 slot }

-- each field is in its set
unfoldable pub fields_ok : List Row → ℕ → List ℕ → Bool
fields_ok [] off slot = true
fields_ok (r ∷ rs) off slot = both (ok_of r slot off) (fields_ok rs (off + room_of r) slot)

-- and the marks are within theirs
unfoldable pub body_ok : List Row → ℕ → ℕ → List ℕ → Bool
body_ok rows m n slot = both (leb (num_at 1 slot 0) m) (both (leb (num_at 1 slot 1) n) (fields_ok rows 2 slot))

-- ---- what an order makes of a record

abbrev pub first : List (List ℕ) → List ℕ
first [] = []
first (x ∷ xs) = x

abbrev pub rest : List (List ℕ) → List (List ℕ)
rest [] = []
rest (x ∷ xs) = xs

-- the fields with the flagged ones set to what the order carries from index at on
unfoldable pub set_flagged : List Row → ℕ → List ℕ → ℕ → List (List ℕ) → List (List ℕ)
set_flagged [] flags s at old = []
set_flagged (r ∷ rs) flags s at old =
    pick (has_all flags r.flag)
    (slice s at (len_of r s at) ∷ set_flagged rs flags s (at + len_of r s at) (rest old))
    (first old ∷ set_flagged rs flags s at (rest old))

-- where the order carries the field of row k: after the flagged fields of the rows before it
unfoldable pub begins_at : List Row → ℕ → List ℕ → ℕ → ℕ → ℕ
begins_at [] flags s at k = at
begins_at (r ∷ rs) flags s at zero = at
begins_at (r ∷ rs) flags s at (suc k) = begins_at rs flags s (pick (has_all flags r.flag) (at + len_of r s at) at) k

-- the bytes that it carries for row k
unfoldable pub carried_at : List Row → ℕ → List ℕ → ℕ → ℕ → List ℕ
carried_at rows flags s at k = slice s (begins_at rows flags s at k) (len_of (get_or rows k no_row) s (begins_at rows flags s at k))

-- new is old with exactly the flagged fields set, each to the bytes that the order carries for it
pub record SetsFlagged (rows : List Row) (flags : ℕ) (s : List ℕ) (at : ℕ) (old new : List (List ℕ)) : Type 0 where
  pub as_many : length new ≡ length rows
  pub each : (k : ℕ) → k < length rows → get_or new k [] ≡ pick (has_all flags (get_or rows k no_row).flag) (carried_at rows flags s at k) (get_or old k [])

-- fields of a new record: zero, or empty
unfoldable pub empty_fields : List Row → List (List ℕ)
empty_fields [] = []
empty_fields (r ∷ rs) = replicate r.size 0 ∷ empty_fields rs

unfoldable pub empty_body : List Row → Body
empty_body rows = record { first = 0; second = 0; fields = empty_fields rows }
