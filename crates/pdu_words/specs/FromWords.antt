-- The record that twelve words stand for: the inverse of words_of. Assumes nothing.
use Rattle.std.specs.Prelude.{ℕ, ◌≤◌, Bool, true, List, [], ◌∷◌, map, ◌≡◌, get_or, leb, eqb}
use Rattle.wire.specs.Tests.{pick, both, all}
use Rattle.pdu.specs.declared.Pdu.{Pdu}
use Rattle.pdu.specs.declared.Pdu.TheVariants.{Execute, Activate, SystemCommand, Handshake, NotifyEvent, WindowMove, MoveSize, MinMaxInfo, ClientInformation, SystemMenu, GetApplicationId, ApplicationIdResponse, ExecuteResult, SystemParameters, HandshakeEx}
use Rattle.pdu.specs.declared.Execute as E01
use Rattle.pdu.specs.declared.Activate as A02
use Rattle.pdu.specs.declared.SystemCommand as S04
use Rattle.pdu.specs.declared.Handshake as H05
use Rattle.pdu.specs.declared.NotifyEvent as N06
use Rattle.pdu.specs.declared.WindowMove as W08
use Rattle.pdu.specs.declared.MoveSize as M09
use Rattle.pdu.specs.declared.MinMaxInfo as M0A
use Rattle.pdu.specs.declared.ClientInformation as C0B
use Rattle.pdu.specs.declared.SystemMenu as S0C
use Rattle.pdu.specs.declared.GetApplicationId as G0E
use Rattle.pdu.specs.declared.ApplicationIdResponse as A0F
use Rattle.pdu.specs.declared.ExecuteResult as E80
use Rattle.pdu.specs.declared.SystemParameters as S03
use Rattle.pdu.specs.declared.HandshakeEx as H13
use Rattle.pdu.specs.declared.Rectangle.{Rectangle}
use Rattle.pdu.specs.declared.HighContrast as H
use Rattle.pdu.specs.declared.Setting.{Setting}
use Rattle.pdu.specs.Layout.{known}
use Rattle.pdu.specs.Records.{span, is_yes, positions_of}
use Rattle.pdu.specs.RoundTrip.{all_hold}
use Rattle.signs.specs.TwosComplement.{signed, holds}
use Rattle.pdu.specs.Settings.{is_byte, is_area, high_contrast, Data, byte, area, scheme, setting_with}
use Rattle.pdu_words.specs.Words.{words_of}

-- the greatest numbers of 8, 16 and 32 bits
abbrev pub u8 : ℕ
u8 = 0xFF

abbrev pub u16 : ℕ
u16 = 0xFFFF

abbrev pub u32 : ℕ
u32 = 0xFFFFFFFF

-- the limits of no record, whose first word is a type
abbrev pub nothing : List ℕ
nothing = 0 ∷ 0 ∷ 0 ∷ 0 ∷ 0 ∷ 0 ∷ 0 ∷ 0 ∷ 0 ∷ 0 ∷ 0 ∷ 0 ∷ []

-- the greatest number that each word of a record of type k may be: that of its field; 1 for start; 0 after the last field
abbrev pub most : ℕ → List ℕ
most k =
    pick (eqb k 0x01) (0x01 ∷ u16 ∷ u32 ∷ u32 ∷ u32 ∷ u32 ∷ u32 ∷ u32 ∷ 0 ∷ 0 ∷ 0 ∷ 0 ∷ [])
    (pick (eqb k 0x02) (0x02 ∷ u32 ∷ u8 ∷ 0 ∷ 0 ∷ 0 ∷ 0 ∷ 0 ∷ 0 ∷ 0 ∷ 0 ∷ 0 ∷ [])
    (pick (eqb k 0x04) (0x04 ∷ u32 ∷ u16 ∷ 0 ∷ 0 ∷ 0 ∷ 0 ∷ 0 ∷ 0 ∷ 0 ∷ 0 ∷ 0 ∷ [])
    (pick (eqb k 0x05) (0x05 ∷ u32 ∷ 0 ∷ 0 ∷ 0 ∷ 0 ∷ 0 ∷ 0 ∷ 0 ∷ 0 ∷ 0 ∷ 0 ∷ [])
    (pick (eqb k 0x06) (0x06 ∷ u32 ∷ u32 ∷ u32 ∷ 0 ∷ 0 ∷ 0 ∷ 0 ∷ 0 ∷ 0 ∷ 0 ∷ 0 ∷ [])
    (pick (eqb k 0x08) (0x08 ∷ u32 ∷ u32 ∷ u32 ∷ u32 ∷ u32 ∷ 0 ∷ 0 ∷ 0 ∷ 0 ∷ 0 ∷ 0 ∷ [])
    (pick (eqb k 0x09) (0x09 ∷ u32 ∷ 1 ∷ u16 ∷ u32 ∷ u32 ∷ 0 ∷ 0 ∷ 0 ∷ 0 ∷ 0 ∷ 0 ∷ [])
    (pick (eqb k 0x0A) (0x0A ∷ u32 ∷ u16 ∷ u16 ∷ u32 ∷ u32 ∷ u16 ∷ u16 ∷ u16 ∷ u16 ∷ 0 ∷ 0 ∷ [])
    (pick (eqb k 0x0B) (0x0B ∷ u32 ∷ 0 ∷ 0 ∷ 0 ∷ 0 ∷ 0 ∷ 0 ∷ 0 ∷ 0 ∷ 0 ∷ 0 ∷ [])
    (pick (eqb k 0x0C) (0x0C ∷ u32 ∷ u32 ∷ u32 ∷ 0 ∷ 0 ∷ 0 ∷ 0 ∷ 0 ∷ 0 ∷ 0 ∷ 0 ∷ [])
    (pick (eqb k 0x0E) (0x0E ∷ u32 ∷ 0 ∷ 0 ∷ 0 ∷ 0 ∷ 0 ∷ 0 ∷ 0 ∷ 0 ∷ 0 ∷ 0 ∷ [])
    (pick (eqb k 0x0F) (0x0F ∷ u32 ∷ u32 ∷ u32 ∷ 0 ∷ 0 ∷ 0 ∷ 0 ∷ 0 ∷ 0 ∷ 0 ∷ 0 ∷ [])
    (pick (eqb k 0x80) (0x80 ∷ u16 ∷ u16 ∷ u32 ∷ u32 ∷ u32 ∷ 0 ∷ 0 ∷ 0 ∷ 0 ∷ 0 ∷ 0 ∷ [])
    (pick (eqb k 0x13) (0x13 ∷ u32 ∷ u32 ∷ 0 ∷ 0 ∷ 0 ∷ 0 ∷ 0 ∷ 0 ∷ 0 ∷ 0 ∷ 0 ∷ [])
    nothing)))))))))))))

-- the same of type 0003 with setting c: its number in the second word, then its data
abbrev pub byte_most : ℕ → List ℕ
byte_most c = 0x03 ∷ c ∷ u8 ∷ 0 ∷ 0 ∷ 0 ∷ 0 ∷ 0 ∷ 0 ∷ 0 ∷ 0 ∷ 0 ∷ []

abbrev pub area_most : ℕ → List ℕ
area_most c = 0x03 ∷ c ∷ u16 ∷ u16 ∷ u16 ∷ u16 ∷ 0 ∷ 0 ∷ 0 ∷ 0 ∷ 0 ∷ 0 ∷ []

abbrev pub scheme_most : ℕ → List ℕ
scheme_most c = 0x03 ∷ c ∷ u32 ∷ u32 ∷ u32 ∷ 0 ∷ 0 ∷ 0 ∷ 0 ∷ 0 ∷ 0 ∷ 0 ∷ []

abbrev pub setting_most : ℕ → List ℕ
setting_most c = pick (is_byte c) (byte_most c) (pick (is_area c) (area_most c) (pick (eqb c high_contrast) (scheme_most c) nothing))

-- that of words whose first two are k and c
abbrev pub limits : ℕ → ℕ → List ℕ
limits k c = pick (eqb k 0x03) (setting_most c) (most k)

-- each word is at most its number of another twelve
abbrev pub within : List ℕ → List ℕ → Bool
within w m = all (map (λ (i : ℕ). leb (get_or w i 0) (get_or m i 0)) (0 ∷ 1 ∷ 2 ∷ 3 ∷ 4 ∷ 5 ∷ 6 ∷ 7 ∷ 8 ∷ 9 ∷ 10 ∷ 11 ∷ []))

-- the same of the words after the type, one by one
pub record Within (w m : List ℕ) : Type 0 where
  pub at1 : get_or w 1 0 ≤ get_or m 1 0
  pub at2 : get_or w 2 0 ≤ get_or m 2 0
  pub at3 : get_or w 3 0 ≤ get_or m 3 0
  pub at4 : get_or w 4 0 ≤ get_or m 4 0
  pub at5 : get_or w 5 0 ≤ get_or m 5 0
  pub at6 : get_or w 6 0 ≤ get_or m 6 0
  pub at7 : get_or w 7 0 ≤ get_or m 7 0
  pub at8 : get_or w 8 0 ≤ get_or m 8 0
  pub at9 : get_or w 9 0 ≤ get_or m 9 0
  pub at10 : get_or w 10 0 ≤ get_or m 10 0
  pub at11 : get_or w 11 0 ≤ get_or m 11 0

-- the words of a record of type k that are positions, and whether a word is one: 2 bytes have a number for its value
abbrev pub position_words : ℕ → List ℕ
position_words k =
    pick (eqb k 0x08) (2 ∷ 3 ∷ 4 ∷ 5 ∷ [])
    (pick (eqb k 0x09) (4 ∷ 5 ∷ [])
    (pick (eqb k 0x0A) (4 ∷ 5 ∷ [])
    (pick (eqb k 0x0C) (2 ∷ 3 ∷ [])
    [])))

abbrev pub is_position : List ℕ → ℕ → Bool
is_position w i = holds 2 (signed 4 (get_or w i 0))

-- two words that are
pub record Positions (w : List ℕ) (i j : ℕ) : Type 0 where
  pub first : is_position w i ≡ true
  pub second : is_position w j ≡ true

-- the words are those of a record of type k: each is within its field, those after the last 0, and positions are sign-extended
abbrev pub fitting : ℕ → List ℕ → Bool
fitting k w = all (within w (limits k (get_or w 1 0)) ∷ map (is_position w) (position_words k))

-- the words stand for a record: the type and the setting are known, and they are those of a record of that type
unfoldable pub stand : List ℕ → Bool
stand w = both (known (get_or w 0 0)) (fitting (get_or w 0 0) w)

pub record Stands (w : List ℕ) : Type 0 where
  pub holds : stand w ≡ true

-- ---- the record that words of each type stand for

abbrev pub execute_from : List ℕ → E01.Execute
execute_from w = record { flags = get_or w 1 0; exe_or_file = span (get_or w 2 0) (get_or w 3 0); working_dir = span (get_or w 4 0) (get_or w 5 0); arguments = span (get_or w 6 0) (get_or w 7 0) }

abbrev pub activate_from : List ℕ → A02.Activate
activate_from w = record { window_id = record { id = get_or w 1 0 }; enabled = get_or w 2 0 }

abbrev pub system_command_from : List ℕ → S04.SystemCommand
system_command_from w = record { window_id = record { id = get_or w 1 0 }; command = get_or w 2 0 }

abbrev pub handshake_from : List ℕ → H05.Handshake
handshake_from w = record { build_number = get_or w 1 0 }

abbrev pub notify_event_from : List ℕ → N06.NotifyEvent
notify_event_from w = record { window_id = record { id = get_or w 1 0 }; notify_icon_id = record { id = get_or w 2 0 }; message = get_or w 3 0 }

abbrev pub window_move_from : List ℕ → W08.WindowMove
window_move_from w = record { window_id = record { id = get_or w 1 0 }; left = signed 4 (get_or w 2 0); top = signed 4 (get_or w 3 0); right = signed 4 (get_or w 4 0); bottom = signed 4 (get_or w 5 0) }

abbrev pub move_size_from : List ℕ → M09.MoveSize
move_size_from w = record { window_id = record { id = get_or w 1 0 }; is_start = is_yes (get_or w 2 0); move_size_type = get_or w 3 0; pos_x = signed 4 (get_or w 4 0); pos_y = signed 4 (get_or w 5 0) }

abbrev pub min_max_info_from : List ℕ → M0A.MinMaxInfo
min_max_info_from w = record { window_id = record { id = get_or w 1 0 }; max_width = get_or w 2 0; max_height = get_or w 3 0; max_pos_x = signed 4 (get_or w 4 0); max_pos_y = signed 4 (get_or w 5 0); min_track_width = get_or w 6 0; min_track_height = get_or w 7 0; max_track_width = get_or w 8 0; max_track_height = get_or w 9 0 }

abbrev pub client_information_from : List ℕ → C0B.ClientInformation
client_information_from w = record { flags = get_or w 1 0 }

abbrev pub system_menu_from : List ℕ → S0C.SystemMenu
system_menu_from w = record { window_id = record { id = get_or w 1 0 }; left = signed 4 (get_or w 2 0); top = signed 4 (get_or w 3 0) }

abbrev pub get_application_id_from : List ℕ → G0E.GetApplicationId
get_application_id_from w = record { window_id = record { id = get_or w 1 0 } }

abbrev pub application_id_response_from : List ℕ → A0F.ApplicationIdResponse
application_id_response_from w = record { window_id = record { id = get_or w 1 0 }; application_id = span (get_or w 2 0) (get_or w 3 0) }

abbrev pub execute_result_from : List ℕ → E80.ExecuteResult
execute_result_from w = record { flags = get_or w 1 0; exec_result = get_or w 2 0; raw_result = get_or w 3 0; exe_or_file = span (get_or w 4 0) (get_or w 5 0) }

abbrev pub area_from : List ℕ → Rectangle
area_from w = record { left = get_or w 2 0; top = get_or w 3 0; right = get_or w 4 0; bottom = get_or w 5 0 }

abbrev pub scheme_from : List ℕ → H.HighContrast
scheme_from w = record { flags = get_or w 2 0; color_scheme = span (get_or w 3 0) (get_or w 4 0) }

unfoldable pub data_from : ℕ → List ℕ → Data
data_from c w = pick (is_byte c) (byte (get_or w 2 0)) (pick (is_area c) (area (area_from w)) (scheme (scheme_from w)))

abbrev pub setting_from : List ℕ → Setting
setting_from w = setting_with (get_or w 1 0) (data_from (get_or w 1 0) w)

abbrev pub system_parameters_from : List ℕ → S03.SystemParameters
system_parameters_from w = record { setting = setting_from w }

abbrev pub handshake_ex_from : List ℕ → H13.HandshakeEx
handshake_ex_from w = record { build_number = get_or w 1 0; flags = get_or w 2 0 }

-- ---- the record that words stand for

unfoldable pub record_from : ℕ → List ℕ → Pdu
record_from k w =
    pick (eqb k 0x01) (Execute (execute_from w))
    (pick (eqb k 0x02) (Activate (activate_from w))
    (pick (eqb k 0x04) (SystemCommand (system_command_from w))
    (pick (eqb k 0x05) (Handshake (handshake_from w))
    (pick (eqb k 0x06) (NotifyEvent (notify_event_from w))
    (pick (eqb k 0x08) (WindowMove (window_move_from w))
    (pick (eqb k 0x09) (MoveSize (move_size_from w))
    (pick (eqb k 0x0A) (MinMaxInfo (min_max_info_from w))
    (pick (eqb k 0x0B) (ClientInformation (client_information_from w))
    (pick (eqb k 0x0C) (SystemMenu (system_menu_from w))
    (pick (eqb k 0x0E) (GetApplicationId (get_application_id_from w))
    (pick (eqb k 0x0F) (ApplicationIdResponse (application_id_response_from w))
    (pick (eqb k 0x03) (SystemParameters (system_parameters_from w))
    (pick (eqb k 0x13) (HandshakeEx (handshake_ex_from w))
    (ExecuteResult (execute_result_from w)))))))))))))))

unfoldable pub pdu_of : List ℕ → Pdu
pdu_of w = record_from (get_or w 0 0) w

-- each field of a record is within its type, as those of every value in memory are
unfoldable pub fits : Pdu → Bool
fits p = both (stand (words_of p)) (all_hold 2 (positions_of p))
