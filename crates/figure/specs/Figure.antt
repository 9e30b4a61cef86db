-- Request No. 8: how much is visible of the windows that memory lists: how many are shown, and the pixels of their visibility
-- rectangles. Assumes nothing.
use Rattle.std.specs.Prelude.{ℕ, ◌≡◌, Bool, true, not, List, [], ◌∷◌, ◌++◌, eqb}
use Rattle.std.proofs.Math.Option.{Option, none, some}
use Rattle.wire.specs.Tests.{pick, both}
use Rattle.wire.specs.Numbers.{num_at, bytes_of, Bytes}
use Rattle.rows.specs.declared.Row.{Row}
use Rattle.body.specs.Bodies.{Body, window_fields, slot_of, body_of, first, rest}
use Rattle.places.specs.declared.Family.TheVariants.{Windows}
use Rattle.places.specs.Counts.{on_found}
use Rattle.slots.specs.Families.{capacity}
use Rattle.slots.specs.Slots.{is_used}
use Rattle.slots.specs.Slots.{slot_of as Slots·slotOf}
use Rattle.slots.specs.Sound.{sound_index}
use Rattle.area.specs.Area.{sum_below, one, area_of}
use Rattle.figure.specs.declared.Figure.{Figure}

-- ---- one window

-- the field of a record that an order carries with this flag
unfoldable pub field_with : ℕ → List Row → List (List ℕ) → List ℕ
field_with flag [] fields = []
field_with flag (r ∷ rs) fields = pick (eqb r.flag flag) (first fields) (field_with flag rs (rest fields))

-- the flags of the show state and of the visibility rectangles
abbrev pub flag_show : ℕ
flag_show = 0x00000010

abbrev pub flag_visibility : ℕ
flag_visibility = 0x00000200

-- a window is shown: its show state is not 0
unfoldable pub is_shown : Body → Bool
is_shown b = not (eqb (num_at 1 (field_with flag_show window_fields b.fields) 0) 0)

-- the pixels of its visibility rectangles, counted one by one; 0 if it is not shown
unfoldable pub pixels_of : Body → ℕ
pixels_of b = pick (is_shown b) (area_of (field_with flag_visibility window_fields b.fields)) 0

-- ---- all windows: in memory they stand in slots 0 to 31

abbrev pub window_at : List ℕ → ℕ → Body
window_at bodies i = body_of window_fields (slot_of bodies i)

-- slot i has a window that is shown
abbrev pub shown_at : List ℕ → List ℕ → ℕ → Bool
shown_at index bodies i = both (is_used index i) (is_shown (window_at bodies i))

-- the pixels of the window in slot i
abbrev pub pixels_at : List ℕ → List ℕ → ℕ → ℕ
pixels_at index bodies i = pick (is_used index i) (pixels_of (window_at bodies i)) 0

-- the bytes of a window's slot, and of the 32
abbrev pub window_length : ℕ
window_length = 1392

abbrev pub windows_length : ℕ
windows_length = 44544

-- how many are shown, and their pixels added up
unfoldable pub figure_of : List ℕ → List ℕ → Figure
figure_of index bodies =
    record { windows = sum_below (capacity Windows) (λ i. one (shown_at index bodies i)); pixels = sum_below (capacity Windows) (pixels_at index bodies) }

-- a figure as bytes: the windows in 4, the pixels in 8
abbrev pub figure_length : ℕ
figure_length = 12

unfoldable pub figure_bytes : Figure → List ℕ
figure_bytes f = bytes_of 4 f.windows ++ bytes_of 8 f.pixels

-- ---- the same by ids, whatever slots the windows stand in

-- an id is a number of 4 bytes: below this
abbrev pub id_end : ℕ
id_end = 0x100000000

abbrev pub of_window : (Body → ℕ) → Option Body → ℕ
of_window f none = 0
of_window f (some b) = f b

-- of the windows that a table has under their ids
unfoldable pub figure_by : (ℕ → Option Body) → Figure
figure_by window =
    record { windows = sum_below id_end (λ id. of_window (λ b. one (is_shown b)) (window id)); pixels = sum_below id_end (λ id. of_window pixels_of (window id)) }

-- the window that memory has under an id
abbrev pub window_by : List ℕ → List ℕ → ℕ → Option Body
window_by index bodies id = on_found (Slots·slotOf index Windows id 0) none (λ i. some (window_at bodies i))

-- places do not count
abbrev pub PlacesDontCount : Type 0
PlacesDontCount = (index bodies : List ℕ) → Bytes index → sound_index index ≡ true → figure_of index bodies ≡ figure_by (window_by index bodies)
