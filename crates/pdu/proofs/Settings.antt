-- Settings by the shape of their data: what a setting's number says of its layout, and back. Assumes nothing.
use mathlib.Core.Path.{◌≡◌, refl, sym, ap, ◌∙◌}
use mathlib.Core.Bool.{Bool, true, false}
use mathlib.Core.List.{List, [], ◌∷◌, ◌++◌, map}
use Prim.Native.Nat.{ℕ, ◌+◌, ◌≤◌}
use native.Mathlib.Omega.{arith}
use lib.ListN.{get_or}
use lib.Dec.{eqb}
use borrow.Author.Tests.{leb-true, eq-eqb, eqb-true}
use Rattle.wire.specs.Tests.{either}
use Rattle.wire.specs.Numbers.{num_at, nums_at, put_all, total}
use Rattle.wire.proofs.Tests.{one_of_lem}
use Rattle.pdu.specs.declared.HighContrast as H
use Rattle.pdu.specs.declared.Setting.{Setting}
use Rattle.pdu.specs.declared.Setting.TheVariants.{DragFullWindows, KeyboardCues, KeyboardPref, MouseButtonSwap, WorkArea, TaskbarPos, DisplayChange, HighContrast, ScreenSaveActive, ScreenSaveSecure}
use Rattle.pdu.specs.declared.Pdu.TheVariants.{SystemParameters}
use Rattle.pdu.specs.Settings.{byte_settings, area_settings, is_byte, is_area, high_contrast, known_setting, setting_widths, Data, byte, area, scheme, number_of, data_of, setting_with, data_at, data_nums, data_size, data_spans, data_allowed, moved}
use Rattle.pdu.specs.Records.{record_of, kind_of, nums_of, size_of, spans_of}
use Rattle.pdu.specs.Reading.{record_as, unknown_setting, lengths_agree}
use Rattle.pdu.specs.Writing.{filled, strings_of, joined, encode}
use Rattle.pdu.proofs.Strings.{spans_from, sum, parts, lens}

-- ---- the shape that a number says

abbrev pub Shape : ℕ → Data → Type 0
Shape c (byte v) = is_byte c ≡ true
Shape c (area a) = (is_byte c ≡ false) × (is_area c ≡ true)
Shape c (scheme h) = c ≡ high_contrast

-- a setting's data has the shape that its number says
pub shape : (s : Setting) → Shape (number_of s) (data_of s)
unfolding number_of data_of is_byte is_area
shape (DragFullWindows v) = refl
shape (KeyboardCues v) = refl
shape (KeyboardPref v) = refl
shape (MouseButtonSwap v) = refl
shape (WorkArea a) = (refl, refl)
shape (TaskbarPos a) = (refl, refl)
shape (DisplayChange a) = (refl, refl)
shape (HighContrast h) = refl
shape (ScreenSaveActive v) = refl
shape (ScreenSaveSecure v) = refl

-- a setting is its number and its data
pub setting_again : (s : Setting) → setting_with (number_of s) (data_of s) ≡ s
unfolding setting_with number_of data_of
setting_again (DragFullWindows v) = refl
setting_again (KeyboardCues v) = refl
setting_again (KeyboardPref v) = refl
setting_again (MouseButtonSwap v) = refl
setting_again (WorkArea a) = refl
setting_again (TaskbarPos a) = refl
setting_again (DisplayChange a) = refl
setting_again (HighContrast h) = refl
setting_again (ScreenSaveActive v) = refl
setting_again (ScreenSaveSecure v) = refl

pub record Made (c : ℕ) (d : Data) (s : Setting) : Type 0 where
  pub number : number_of s ≡ c
  pub body : data_of s ≡ d

-- the setting of a number and of data in its shape has that number and that data
pub made : (c : ℕ) (d : Data) → Shape c d → Made c d (setting_with c d)
unfolding setting_with number_of data_of is_byte is_area
made c (byte v) h =
    let m : ℕ → Type 0 = λ k. Made k (byte v) (setting_with k (byte v)) in
    one_of_lem m byte_settings c h
    (record { number = refl; body = refl }, (record { number = refl; body = refl }, (record { number = refl; body = refl }, (record { number = refl; body = refl }, (record { number = refl; body = refl }, (record { number = refl; body = refl }, tt))))))
made c (area a) h =
    let m : ℕ → Type 0 = λ k. Made k (area a) (setting_with k (area a)) in
    one_of_lem m area_settings c h.1
    (record { number = refl; body = refl }, (record { number = refl; body = refl }, (record { number = refl; body = refl }, tt)))
made c (scheme d) h = record { number = sym h; body = refl }

pub not_byte : is_byte high_contrast ≡ false
unfolding is_byte
not_byte = refl

pub not_area : is_area high_contrast ≡ false
unfolding is_area
not_area = refl

pub byte_other : (c : ℕ) → is_byte c ≡ true → eqb c high_contrast ≡ false
unfolding is_byte
byte_other c h =
    one_of_lem (λ (k : ℕ). eqb k high_contrast ≡ false) byte_settings c h (refl, (refl, (refl, (refl, (refl, (refl, tt))))))

pub area_other : (c : ℕ) → is_area c ≡ true → eqb c high_contrast ≡ false
unfolding is_area
area_other c h = one_of_lem (λ (k : ℕ). eqb k high_contrast ≡ false) area_settings c h (refl, (refl, (refl, tt)))

pub shape_known : (c : ℕ) (d : Data) → Shape c d → known_setting c ≡ true
unfolding known_setting
shape_known c (byte v) h = rw h
shape_known c (area a) h = rw (h.0, h.1)
shape_known c (scheme d) h = rw (h, not_byte, not_area)

-- a known number says one of the three shapes
pub by_shape : (c : ℕ) → known_setting c ≡ true → (C : Type 0) → (is_byte c ≡ true → C) → (is_byte c ≡ false → is_area c ≡ true → C) → (c ≡ high_contrast → C) → C
unfolding known_setting
by_shape c k C f g h = go (is_byte c) refl (is_area c) refl k
  where
    go : (a : Bool) → is_byte c ≡ a → (b : Bool) → is_area c ≡ b → either (either a b) (eqb c high_contrast) ≡ true → C
    go true ea b eb e = f ea
    go false ea true eb e = g ea eb
    go false ea false eb e = h (eqb-true c high_contrast e)

-- ---- data of a shape

pub moved_shape : (c : ℕ) (d : Data) → Shape c d → Shape c (moved d)
unfolding moved
moved_shape c (byte v) h = h
moved_shape c (area a) h = h
moved_shape c (scheme d) h = h

pub moved_size : (d : Data) → data_size (moved d) ≡ data_size d
unfolding moved data_size
moved_size (byte v) = refl
moved_size (area a) = refl
moved_size (scheme d) = refl

pub moved_allowed : (d : Data) → data_allowed (moved d) ≡ data_allowed d
unfolding moved data_allowed
moved_allowed (byte v) = refl
moved_allowed (area a) = refl
moved_allowed (scheme d) = refl

pub least_size : (d : Data) → 9 ≤ data_size d
unfolding data_size
least_size (byte v) = omega arith
least_size (area a) = omega arith
least_size (scheme d) = omega arith

pub most_size : (d : Data) → data_allowed d ≡ true → data_size d ≤ 538
unfolding data_size data_allowed
most_size (byte v) a = omega arith
most_size (area r) a = omega arith
most_size (scheme d) a = omega (arith, leb-true d.color_scheme.len 520 a)

-- the numbers of a setting's data make it again
pub data_back : (c : ℕ) (d : Data) → Shape c d → data_at c (c ∷ data_nums d) ≡ moved d
unfolding data_at data_nums moved
data_back c (byte v) h = rw h
data_back c (area a) h = rw (h.0, h.1)
data_back c (scheme d) h = rw (h, not_byte, not_area)

-- a setting takes its numbers and its string, which stands behind them
pub size_shape : (c : ℕ) (d : Data) → Shape c d → total (2 ∷ 2 ∷ 4 ∷ setting_widths c) + sum (lens (data_spans d)) ≡ data_size d
unfolding total setting_widths data_spans data_size
size_shape c (byte v) h = rw h
size_shape c (area a) h = rw (h.0, h.1)
size_shape c (scheme d) h = rw (h, not_byte, not_area) (omega arith)

pub spans_shape : (c : ℕ) (d : Data) → Shape c d → data_spans (moved d) ≡ spans_from (total (2 ∷ 2 ∷ 4 ∷ setting_widths c)) (lens (data_spans d))
unfolding total setting_widths data_spans moved
spans_shape c (byte v) h = refl
spans_shape c (area a) h = refl
spans_shape c (scheme d) h = rw (h, not_byte, not_area)

-- no string of a setting is filled out
pub filled_data : (d : Data) (src : List ℕ) → map (filled 0x03) (parts src (data_spans d)) ≡ parts src (data_spans d)
unfolding filled data_spans
filled_data (byte v) src = refl
filled_data (area a) src = refl
filled_data (scheme d) src = refl

scheme_agrees : (c : ℕ) (d : H.HighContrast) (s : List ℕ) → c ≡ high_contrast → num_at 4 s 4 ∷ nums_at (setting_widths c) s 8 ≡ c ∷ data_nums (scheme d)
    → eqb (num_at 4 s 12) (num_at 2 s 16 + 2) ≡ true
unfolding nums_at setting_widths data_nums
scheme_agrees c d s h e =
    let r : num_at 4 s 4 ∷ num_at 4 s 8 ∷ num_at 4 s 12 ∷ num_at 2 s 16 ∷ [] ≡ high_contrast ∷ data_nums (scheme d) = rw (h, not_byte, not_area) at e in
    eq-eqb (num_at 4 s 12) (num_at 2 s 16 + 2) (ap (λ (l : List ℕ). get_or l 2 0) r ∙ ap (λ (n : ℕ). n + 2) (sym (ap (λ (l : List ℕ). get_or l 3 0) r)))

-- a message with these numbers names a known setting, and its lengths agree
pub lines_fine : (c : ℕ) (d : Data) (s : List ℕ) → Shape c d → nums_at (4 ∷ setting_widths c) s 4 ≡ c ∷ data_nums d
    → (unknown_setting 0x03 s ≡ false) × (lengths_agree 0x03 s ≡ true)
unfolding nums_at
lines_fine c d s h e =
    let q : num_at 4 s 4 ≡ c = ap (λ (l : List ℕ). get_or l 0 0) e in
    (rw (q, shape_known c d h), agree c d h q e)
  where
    agree : (c : ℕ) (d : Data) → Shape c d → num_at 4 s 4 ≡ c → num_at 4 s 4 ∷ nums_at (setting_widths c) s 8 ≡ c ∷ data_nums d → lengths_agree 0x03 s ≡ true
    agree c (byte v) h q e = rw (q, byte_other c h)
    agree c (area a) h q e = rw (q, area_other c h.1)
    agree c (scheme d) h q e = rw (q, h) (scheme_agrees c d s h e)

-- ---- the record of a message

module _ (s : List ℕ) where
  pub byte_is : {c v : ℕ} → is_byte c ≡ true → c ≡ num_at 4 s 4 → v ≡ num_at 1 s 8 → record_as 0x03 s ≡ SystemParameters (record { setting = setting_with c (byte v) })
  unfolding record_as record_of nums_at setting_widths data_at
  byte_is {c} {v} h e0 e1 = rw (← e0, h, e1)

  pub area_is : {c x y z w : ℕ} → is_byte c ≡ false → is_area c ≡ true → c ≡ num_at 4 s 4 → x ≡ num_at 2 s 8 → y ≡ num_at 2 s 10 → z ≡ num_at 2 s 12 → w ≡ num_at 2 s 14
      → record_as 0x03 s ≡ SystemParameters (record { setting = setting_with c (area (record { left = x; top = y; right = z; bottom = w })) })
  unfolding record_as record_of nums_at setting_widths data_at
  area_is {c} g h e0 e1 e2 e3 e4 = rw (← e0, g, h, e1, e2, e3, e4)

  pub scheme_is : {f n : ℕ} → high_contrast ≡ num_at 4 s 4 → f ≡ num_at 4 s 8 → n ≡ num_at 2 s 16
      → record_as 0x03 s ≡ SystemParameters (record { setting = setting_with high_contrast (scheme (record { flags = f; color_scheme = record { at = 18; len = n } })) })
  unfolding record_as record_of nums_at setting_widths data_at
  scheme_is e0 e1 e2 = rw (← e0, not_byte, not_area, e1, e2)

-- ---- the bytes of a setting

pub encode_made : {c : ℕ} {d : Data} {t : Setting} (src : List ℕ) → Made c d t
    → encode (SystemParameters (record { setting = t })) src ≡ put_all (2 ∷ 2 ∷ 4 ∷ setting_widths c) (0x03 ∷ data_size d ∷ c ∷ data_nums d) ++ joined (parts src (data_spans d))
unfolding encode strings_of filled kind_of nums_of size_of spans_of
encode_made src m = rw (m.number, m.body)
