-- The fields of a record in memory fit its words. Assumes nothing.
use mathlib.Core.Path.{◌≡◌, refl}
use mathlib.Core.Bool.{Bool, true, false}
use mathlib.Core.List.{List}
use Prim.Native.Nat.{ℕ, ◌*◌, ◌≤◌, ◌<◌}
use native.Mathlib.Omega.{arith}
use lib.Dec.{leb}
use lib.IntN.{ℤ}
use lib.Signed.{mag}
use borrow.Author.Tests.{le-leb, lt-ltb}
use mir.Val.{Val}
use denote.Laws.{Is}
use denote.Enum.Declared.{row, variants}
use denote.Enum.Laws.{Fields, spellss, owed}
use Rattle.signs.specs.TwosComplement.{unsigned, holds}
use Rattle.signs.proofs.TwosComplement.{word_small, word_short}
use Rattle.pdu.specs.contracts.Pdu.{the_type}
use Rattle.pdu.proofs.Pdu.TheLaws.{the_laws}
use Rattle.pdu.specs.declared.Pdu.{Pdu}
use Rattle.pdu.specs.declared.Pdu.TheVariants.{Execute, Activate, SystemCommand, Handshake, NotifyEvent, WindowMove, MoveSize, MinMaxInfo, ClientInformation, SystemMenu, GetApplicationId, ApplicationIdResponse, ExecuteResult, SystemParameters, HandshakeEx}
use Rattle.pdu.specs.declared.Setting.{Setting}
use Rattle.pdu.specs.declared.Setting.TheVariants.{DragFullWindows, KeyboardCues, KeyboardPref, MouseButtonSwap, WorkArea, TaskbarPos, DisplayChange, HighContrast, ScreenSaveActive, ScreenSaveSecure}
use Rattle.pdu.specs.Layout.{known}
use Rattle.pdu.specs.Settings.{Data, byte, area, scheme, number_of, data_of, setting_with}
use Rattle.pdu.specs.Records.{yes_number, positions_of}
use Rattle.pdu.specs.RoundTrip.{all_hold}
use Rattle.pdu.proofs.Settings.{Shape, shape, made}
use Rattle.pdu_words.specs.Words.{setting_words, words_of}
use Rattle.pdu_words.specs.FromWords.{u8, u16, u32, setting_most, within, stand, fits}
use Rattle.pdu_words.proofs.FromWords.{byte_limits, area_limits, scheme_limits}

abbrev Held : Pdu → Type 0
Held p = Fields (variants the_type) (spellss the_type.parts the_laws) (the_type.to p)

pub start_most : (b : Bool) → leb (yes_number b) 1 ≡ true
start_most true = refl
start_most false = refl

-- what is known of a setting's data in memory
abbrev pub HeldData : Data → Type 0
HeldData (byte v) = v ≤ u8
HeldData (area a) = (a.left ≤ u16) × (a.top ≤ u16) × (a.right ≤ u16) × (a.bottom ≤ u16)
HeldData (scheme h) = (h.flags ≤ u32) × (h.color_scheme.at ≤ u32) × (h.color_scheme.len ≤ u32)

pub held_data : (s : Setting) → Held (SystemParameters (record { setting = s })) → HeldData (data_of s)
unfolding data_of
held_data (DragFullWindows v) g = omega (arith, g)
held_data (KeyboardCues v) g = omega (arith, g)
held_data (KeyboardPref v) g = omega (arith, g)
held_data (MouseButtonSwap v) g = omega (arith, g)
held_data (WorkArea a) g = (omega (arith, g), omega (arith, g), omega (arith, g), omega (arith, g))
held_data (TaskbarPos a) g = (omega (arith, g), omega (arith, g), omega (arith, g), omega (arith, g))
held_data (DisplayChange a) g = (omega (arith, g), omega (arith, g), omega (arith, g), omega (arith, g))
held_data (HighContrast h) g = (omega (arith, g), omega (arith, g), omega (arith, g))
held_data (ScreenSaveActive v) g = omega (arith, g)
held_data (ScreenSaveSecure v) g = omega (arith, g)

data_fits : (c : ℕ) (d : Data) → Shape c d → HeldData d → within (setting_words c d) (setting_most c) ≡ true
data_fits c (byte v) h g = rw (byte_limits c h, le-leb c c (omega arith), le-leb v u8 g)
data_fits c (area a) h g = rw (area_limits c h.0 h.1, le-leb c c (omega arith), le-leb a.left u16 g.0, le-leb a.top u16 g.1, le-leb a.right u16 g.2, le-leb a.bottom u16 g.3)
data_fits c (scheme d) h g = rw (scheme_limits c h, le-leb c c (omega arith), le-leb d.flags u32 g.0, le-leb d.color_scheme.at u32 g.1, le-leb d.color_scheme.len u32 g.2)

words_fit : (c : ℕ) (d : Data) → Shape c d → HeldData d → stand (setting_words c d) ≡ true
unfolding stand known
words_fit c (byte v) h g = data_fits c (byte v) h g
words_fit c (area a) h g = data_fits c (area a) h g
words_fit c (scheme d) h g = data_fits c (scheme d) h g

-- a setting with data of its shape that fits
pub setting_fits : (c : ℕ) (d : Data) → Shape c d → HeldData d → fits (SystemParameters (record { setting = setting_with c d })) ≡ true
unfolding fits words_of positions_of all_hold
setting_fits c d h g = let m = made c d h in rw (m.number, m.body, words_fit c d h g)

-- a value of 16 bits
small : (z : ℤ) → mag z < 32768 → holds 2 z ≡ true
unfolding holds
small z h = lt-ltb (2 * mag z) 65536 (omega arith)

-- its word fits, and stands for it
pub word_most : (z : ℤ) → holds 2 z ≡ true → leb (unsigned 4 z) u32 ≡ true
word_most z h = le-leb (unsigned 4 z) u32 (omega (arith, word_small z h))

held_fits : (p : Pdu) → Held p → fits p ≡ true
unfolding fits stand known words_of positions_of all_hold
held_fits (Execute e) g = rw (le-leb e.flags u16 (omega (arith, g)), le-leb e.exe_or_file.at u32 (omega (arith, g)), le-leb e.exe_or_file.len u32 (omega (arith, g)), le-leb e.working_dir.at u32 (omega (arith, g)), le-leb e.working_dir.len u32 (omega (arith, g)), le-leb e.arguments.at u32 (omega (arith, g)), le-leb e.arguments.len u32 (omega (arith, g)))
held_fits (Activate e) g = rw (le-leb e.window_id.id u32 (omega (arith, g)), le-leb e.enabled u8 (omega (arith, g)))
held_fits (SystemCommand e) g = rw (le-leb e.window_id.id u32 (omega (arith, g)), le-leb e.command u16 (omega (arith, g)))
held_fits (Handshake e) g = rw (le-leb e.build_number u32 (omega (arith, g)))
held_fits (NotifyEvent e) g = rw (le-leb e.window_id.id u32 (omega (arith, g)), le-leb e.notify_icon_id.id u32 (omega (arith, g)), le-leb e.message u32 (omega (arith, g)))
held_fits (WindowMove e) g =
    let s1 = small e.left (omega (arith, g)) in
    let s2 = small e.top (omega (arith, g)) in
    let s3 = small e.right (omega (arith, g)) in
    let s4 = small e.bottom (omega (arith, g)) in
    rw (le-leb e.window_id.id u32 (omega (arith, g)), word_most e.left s1, word_most e.top s2, word_most e.right s3, word_most e.bottom s4, word_short e.left s1, word_short e.top s2, word_short e.right s3, word_short e.bottom s4, s1, s2, s3, s4)
held_fits (MoveSize e) g =
    let s3 = small e.pos_x (omega (arith, g)) in
    let s4 = small e.pos_y (omega (arith, g)) in
    rw (le-leb e.window_id.id u32 (omega (arith, g)), start_most e.is_start, le-leb e.move_size_type u16 (omega (arith, g)), word_most e.pos_x s3, word_most e.pos_y s4, word_short e.pos_x s3, word_short e.pos_y s4, s3, s4)
held_fits (MinMaxInfo e) g =
    let s3 = small e.max_pos_x (omega (arith, g)) in
    let s4 = small e.max_pos_y (omega (arith, g)) in
    rw (le-leb e.window_id.id u32 (omega (arith, g)), le-leb e.max_width u16 (omega (arith, g)), le-leb e.max_height u16 (omega (arith, g)), word_most e.max_pos_x s3, word_most e.max_pos_y s4, le-leb e.min_track_width u16 (omega (arith, g)), le-leb e.min_track_height u16 (omega (arith, g)), le-leb e.max_track_width u16 (omega (arith, g)), le-leb e.max_track_height u16 (omega (arith, g)), word_short e.max_pos_x s3, word_short e.max_pos_y s4, s3, s4)
held_fits (ClientInformation e) g = rw (le-leb e.flags u32 (omega (arith, g)))
held_fits (SystemMenu e) g =
    let s1 = small e.left (omega (arith, g)) in
    let s2 = small e.top (omega (arith, g)) in
    rw (le-leb e.window_id.id u32 (omega (arith, g)), word_most e.left s1, word_most e.top s2, word_short e.left s1, word_short e.top s2, s1, s2)
held_fits (GetApplicationId e) g = rw (le-leb e.window_id.id u32 (omega (arith, g)))
held_fits (ApplicationIdResponse e) g = rw (le-leb e.window_id.id u32 (omega (arith, g)), le-leb e.application_id.at u32 (omega (arith, g)), le-leb e.application_id.len u32 (omega (arith, g)))
held_fits (ExecuteResult e) g = rw (le-leb e.flags u16 (omega (arith, g)), le-leb e.exec_result u16 (omega (arith, g)), le-leb e.raw_result u32 (omega (arith, g)), le-leb e.exe_or_file.at u32 (omega (arith, g)), le-leb e.exe_or_file.len u32 (omega (arith, g)))
held_fits (SystemParameters e) g = rw (words_fit (number_of e.setting) (data_of e.setting) (shape e.setting) (held_data e.setting g))
held_fits (HandshakeEx e) g = rw (le-leb e.build_number u32 (omega (arith, g)), le-leb e.flags u32 (omega (arith, g)))

pub memory_fits : (p : Pdu) (vs : List Val) → Is (row the_type) p vs → fits p ≡ true
memory_fits p vs h = held_fits p (owed the_type the_laws p vs h)
