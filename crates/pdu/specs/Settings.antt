-- System parameters: a setting as its number (SystemParam) and its data, and the layout of each. Assumes nothing.
use Rattle.std.specs.Prelude.{ℕ, ◌+◌, Bool, true, List, [], ◌∷◌, get_or, eqb, leb}
use Rattle.wire.specs.Tests.{pick, any}
use Rattle.pdu.specs.declared.Span.{Span}
use Rattle.pdu.specs.declared.Rectangle.{Rectangle}
use Rattle.pdu.specs.declared.HighContrast as H
use Rattle.pdu.specs.declared.Setting.{Setting}
use Rattle.pdu.specs.declared.Setting.TheVariants.{DragFullWindows, KeyboardCues, KeyboardPref, MouseButtonSwap, WorkArea, TaskbarPos, DisplayChange, HighContrast, ScreenSaveActive, ScreenSaveSecure}
use Rattle.pdu.specs.Layout.{one_of, widths}

-- ---- the numbers

-- settings whose body is one byte; a rectangle
abbrev pub byte_settings : List ℕ
byte_settings = 0x25 ∷ 0x100B ∷ 0x45 ∷ 0x21 ∷ 0x11 ∷ 0x77 ∷ []

abbrev pub area_settings : List ℕ
area_settings = 0x2F ∷ 0xF000 ∷ 0xF001 ∷ []

unfoldable pub is_byte : ℕ → Bool
is_byte c = one_of c byte_settings

unfoldable pub is_area : ℕ → Bool
is_area c = one_of c area_settings

-- the setting whose body is a color scheme
abbrev pub high_contrast : ℕ
high_contrast = 0x43

unfoldable pub known_setting : ℕ → Bool
known_setting c = any (is_byte c ∷ is_area c ∷ eqb c high_contrast ∷ [])

-- the widths of the numbers of a message of type k whose first number is c: those of type 0003 by its setting
unfoldable pub setting_widths : ℕ → List ℕ
setting_widths c = pick (is_byte c) (1 ∷ []) (pick (is_area c) (2 ∷ 2 ∷ 2 ∷ 2 ∷ []) (4 ∷ 4 ∷ 2 ∷ []))

abbrev pub widths_with : ℕ → ℕ → List ℕ
widths_with k c = pick (eqb k 0x03) (4 ∷ setting_widths c) (widths k)

-- ---- the data

pub data Data : Type 0 where
  byte : ℕ → Data
  area : Rectangle → Data
  scheme : H.HighContrast → Data

-- a setting is its number and its data
unfoldable pub number_of : Setting → ℕ
number_of (DragFullWindows v) = 0x25
number_of (KeyboardCues v) = 0x100B
number_of (KeyboardPref v) = 0x45
number_of (MouseButtonSwap v) = 0x21
number_of (WorkArea a) = 0x2F
number_of (TaskbarPos a) = 0xF000
number_of (DisplayChange a) = 0xF001
number_of (HighContrast h) = high_contrast
number_of (ScreenSaveActive v) = 0x11
number_of (ScreenSaveSecure v) = 0x77

unfoldable pub data_of : Setting → Data
data_of (DragFullWindows v) = byte v
data_of (KeyboardCues v) = byte v
data_of (KeyboardPref v) = byte v
data_of (MouseButtonSwap v) = byte v
data_of (WorkArea a) = area a
data_of (TaskbarPos a) = area a
data_of (DisplayChange a) = area a
data_of (HighContrast h) = scheme h
data_of (ScreenSaveActive v) = byte v
data_of (ScreenSaveSecure v) = byte v

-- the setting of a number and its data
unfoldable pub setting_with : ℕ → Data → Setting
setting_with c (byte v) =
    pick (eqb c 0x25) (DragFullWindows v)
    (pick (eqb c 0x100B) (KeyboardCues v)
    (pick (eqb c 0x45) (KeyboardPref v)
    (pick (eqb c 0x21) (MouseButtonSwap v)
    (pick (eqb c 0x11) (ScreenSaveActive v)
    (ScreenSaveSecure v)))))
setting_with c (area a) =
    pick (eqb c 0x2F) (WorkArea a)
    (pick (eqb c 0xF000) (TaskbarPos a)
    (DisplayChange a))
setting_with c (scheme h) = HighContrast h

-- ---- the layout

-- the data of setting c among the numbers of its message (the first is c): a color scheme's outer length, then its inner one, then the string
unfoldable pub data_at : ℕ → List ℕ → Data
data_at c n =
    pick (is_byte c) (byte (get_or n 1 0))
    (pick (is_area c) (area (record { left = get_or n 1 0; top = get_or n 2 0; right = get_or n 3 0; bottom = get_or n 4 0 }))
    (scheme (record { flags = get_or n 1 0; color_scheme = record { at = 18; len = get_or n 3 0 } })))

-- the numbers after the setting, and the bytes of the whole message
unfoldable pub data_nums : Data → List ℕ
data_nums (byte v) = v ∷ []
data_nums (area a) = a.left ∷ a.top ∷ a.right ∷ a.bottom ∷ []
data_nums (scheme h) = h.flags ∷ (h.color_scheme.len + 2) ∷ h.color_scheme.len ∷ []

unfoldable pub data_size : Data → ℕ
data_size (byte v) = 9
data_size (area a) = 16
data_size (scheme h) = 18 + h.color_scheme.len

unfoldable pub data_spans : Data → List Span
data_spans (byte v) = []
data_spans (area a) = []
data_spans (scheme h) = h.color_scheme ∷ []

-- a color scheme has at most 520 bytes; all else takes any value
abbrev pub scheme_fits : H.HighContrast → Bool
scheme_fits h = leb h.color_scheme.len 520

unfoldable pub data_allowed : Data → Bool
data_allowed (byte v) = true
data_allowed (area a) = true
data_allowed (scheme h) = scheme_fits h

-- the same data with its string where writing puts it
unfoldable pub moved : Data → Data
moved (byte v) = byte v
moved (area a) = area a
moved (scheme h) = scheme (record { flags = h.flags; color_scheme = record { at = 18; len = h.color_scheme.len } })
