-- Records and numbers: the record that a type's numbers make, and the type, the numbers and the size of a record. Positions are signed. Assumes nothing.
use Rattle.std.specs.Prelude.{ℕ, ◌+◌, Bool, not, List, [], ◌∷◌, get_or, eqb, ℤ}
use Rattle.wire.specs.Tests.{pick}
use Rattle.signs.specs.TwosComplement.{signed, unsigned}
use Rattle.pdu.specs.declared.Span.{Span}
use Rattle.pdu.specs.declared.Pdu.{Pdu}
use Rattle.pdu.specs.declared.Pdu.TheVariants.{Execute, Activate, SystemCommand, Handshake, NotifyEvent, WindowMove, MoveSize, MinMaxInfo, ClientInformation, SystemMenu, GetApplicationId, ApplicationIdResponse, ExecuteResult, SystemParameters, HandshakeEx}
use Rattle.pdu.specs.Settings.{number_of, data_of, setting_with, data_at, data_nums, data_size, data_spans, widths_with}

abbrev pub span : ℕ → ℕ → Span
span a n = record { at = a; len = n }

-- a number read as yes or no; yes or no as a number
abbrev pub is_yes : ℕ → Bool
is_yes n = not (eqb n 0)

abbrev pub yes_number : Bool → ℕ
yes_number b = pick b 1 0

-- the record that the numbers of type k make, its strings one after the other behind them. (An unknown type meets 4 before.)
unfoldable pub record_of : ℕ → List ℕ → Pdu
record_of k n =
    pick (eqb k 0x01)
    (Execute (record { flags = get_or n 0 0; exe_or_file = span 12 (get_or n 1 0); working_dir = span (12 + get_or n 1 0) (get_or n 2 0); arguments = span (12 + get_or n 1 0 + get_or n 2 0) (get_or n 3 0) }))
    (pick (eqb k 0x02)
    (Activate (record { window_id = record { id = get_or n 0 0 }; enabled = get_or n 1 0 }))
    (pick (eqb k 0x04)
    (SystemCommand (record { window_id = record { id = get_or n 0 0 }; command = get_or n 1 0 }))
    (pick (eqb k 0x05)
    (Handshake (record { build_number = get_or n 0 0 }))
    (pick (eqb k 0x06)
    (NotifyEvent (record { window_id = record { id = get_or n 0 0 }; notify_icon_id = record { id = get_or n 1 0 }; message = get_or n 2 0 }))
    (pick (eqb k 0x08)
    (WindowMove (record { window_id = record { id = get_or n 0 0 }; left = signed 2 (get_or n 1 0); top = signed 2 (get_or n 2 0); right = signed 2 (get_or n 3 0); bottom = signed 2 (get_or n 4 0) }))
    (pick (eqb k 0x09)
    (MoveSize (record { window_id = record { id = get_or n 0 0 }; is_start = is_yes (get_or n 1 0); move_size_type = get_or n 2 0; pos_x = signed 2 (get_or n 3 0); pos_y = signed 2 (get_or n 4 0) }))
    (pick (eqb k 0x0A)
    (MinMaxInfo (record { window_id = record { id = get_or n 0 0 }; max_width = get_or n 1 0; max_height = get_or n 2 0; max_pos_x = signed 2 (get_or n 3 0); max_pos_y = signed 2 (get_or n 4 0); min_track_width = get_or n 5 0; min_track_height = get_or n 6 0; max_track_width = get_or n 7 0; max_track_height = get_or n 8 0 }))
    (pick (eqb k 0x0B)
    (ClientInformation (record { flags = get_or n 0 0 }))
    (pick (eqb k 0x0C)
    (SystemMenu (record { window_id = record { id = get_or n 0 0 }; left = signed 2 (get_or n 1 0); top = signed 2 (get_or n 2 0) }))
    (pick (eqb k 0x0E)
    (GetApplicationId (record { window_id = record { id = get_or n 0 0 } }))
    (pick (eqb k 0x0F)
    (ApplicationIdResponse (record { window_id = record { id = get_or n 0 0 }; application_id = span 8 520 }))
    (pick (eqb k 0x03)
    (SystemParameters (record { setting = setting_with (get_or n 0 0) (data_at (get_or n 0 0) n) }))
    (pick (eqb k 0x13)
    (HandshakeEx (record { build_number = get_or n 0 0; flags = get_or n 1 0 }))
    (ExecuteResult (record { flags = get_or n 0 0; exec_result = get_or n 1 0; raw_result = get_or n 2 0; exe_or_file = span 16 (get_or n 4 0) })))))))))))))))

-- the type of a record
unfoldable pub kind_of : Pdu → ℕ
kind_of (Execute e) = 0x01
kind_of (Activate e) = 0x02
kind_of (SystemCommand e) = 0x04
kind_of (Handshake e) = 0x05
kind_of (NotifyEvent e) = 0x06
kind_of (WindowMove e) = 0x08
kind_of (MoveSize e) = 0x09
kind_of (MinMaxInfo e) = 0x0A
kind_of (ClientInformation e) = 0x0B
kind_of (SystemMenu e) = 0x0C
kind_of (GetApplicationId e) = 0x0E
kind_of (ApplicationIdResponse e) = 0x0F
kind_of (ExecuteResult e) = 0x80
kind_of (SystemParameters e) = 0x03
kind_of (HandshakeEx e) = 0x13

-- the numbers of a record after the header; Padding is 0, and start 0 or 1
unfoldable pub nums_of : Pdu → List ℕ
nums_of (Execute e) = e.flags ∷ e.exe_or_file.len ∷ e.working_dir.len ∷ e.arguments.len ∷ []
nums_of (Activate e) = e.window_id.id ∷ e.enabled ∷ []
nums_of (SystemCommand e) = e.window_id.id ∷ e.command ∷ []
nums_of (Handshake e) = e.build_number ∷ []
nums_of (NotifyEvent e) = e.window_id.id ∷ e.notify_icon_id.id ∷ e.message ∷ []
nums_of (WindowMove e) = e.window_id.id ∷ unsigned 2 e.left ∷ unsigned 2 e.top ∷ unsigned 2 e.right ∷ unsigned 2 e.bottom ∷ []
nums_of (MoveSize e) = e.window_id.id ∷ yes_number e.is_start ∷ e.move_size_type ∷ unsigned 2 e.pos_x ∷ unsigned 2 e.pos_y ∷ []
nums_of (MinMaxInfo e) = e.window_id.id ∷ e.max_width ∷ e.max_height ∷ unsigned 2 e.max_pos_x ∷ unsigned 2 e.max_pos_y ∷ e.min_track_width ∷ e.min_track_height ∷ e.max_track_width ∷ e.max_track_height ∷ []
nums_of (ClientInformation e) = e.flags ∷ []
nums_of (SystemMenu e) = e.window_id.id ∷ unsigned 2 e.left ∷ unsigned 2 e.top ∷ []
nums_of (GetApplicationId e) = e.window_id.id ∷ []
nums_of (ApplicationIdResponse e) = e.window_id.id ∷ []
nums_of (ExecuteResult e) = e.flags ∷ e.exec_result ∷ e.raw_result ∷ 0 ∷ e.exe_or_file.len ∷ []
nums_of (SystemParameters e) = number_of e.setting ∷ data_nums (data_of e.setting)
nums_of (HandshakeEx e) = e.build_number ∷ e.flags ∷ []

-- their widths
abbrev pub widths_of : Pdu → List ℕ
widths_of p = widths_with (kind_of p) (get_or (nums_of p) 0 0)

-- the positions of a record: its signed fields of 2 bytes
unfoldable pub positions_of : Pdu → List ℤ
positions_of (Execute e) = []
positions_of (Activate e) = []
positions_of (SystemCommand e) = []
positions_of (Handshake e) = []
positions_of (NotifyEvent e) = []
positions_of (WindowMove e) = e.left ∷ e.top ∷ e.right ∷ e.bottom ∷ []
positions_of (MoveSize e) = e.pos_x ∷ e.pos_y ∷ []
positions_of (MinMaxInfo e) = e.max_pos_x ∷ e.max_pos_y ∷ []
positions_of (ClientInformation e) = []
positions_of (SystemMenu e) = e.left ∷ e.top ∷ []
positions_of (GetApplicationId e) = []
positions_of (ApplicationIdResponse e) = []
positions_of (ExecuteResult e) = []
positions_of (SystemParameters e) = []
positions_of (HandshakeEx e) = []

-- the bytes that a record takes
unfoldable pub size_of : Pdu → ℕ
size_of (Execute e) = 12 + e.exe_or_file.len + e.working_dir.len + e.arguments.len
size_of (Activate e) = 9
size_of (SystemCommand e) = 10
size_of (Handshake e) = 8
size_of (NotifyEvent e) = 16
size_of (WindowMove e) = 16
size_of (MoveSize e) = 16
size_of (MinMaxInfo e) = 24
size_of (ClientInformation e) = 8
size_of (SystemMenu e) = 12
size_of (GetApplicationId e) = 8
size_of (ApplicationIdResponse e) = 528
size_of (ExecuteResult e) = 16 + e.exe_or_file.len
size_of (SystemParameters e) = data_size (data_of e.setting)
size_of (HandshakeEx e) = 12

-- the places of a record's strings, in carried order
unfoldable pub spans_of : Pdu → List Span
spans_of (Execute e) = e.exe_or_file ∷ e.working_dir ∷ e.arguments ∷ []
spans_of (Activate e) = []
spans_of (SystemCommand e) = []
spans_of (Handshake e) = []
spans_of (NotifyEvent e) = []
spans_of (WindowMove e) = []
spans_of (MoveSize e) = []
spans_of (MinMaxInfo e) = []
spans_of (ClientInformation e) = []
spans_of (SystemMenu e) = []
spans_of (GetApplicationId e) = []
spans_of (ApplicationIdResponse e) = e.application_id ∷ []
spans_of (ExecuteResult e) = e.exe_or_file ∷ []
spans_of (SystemParameters e) = data_spans (data_of e.setting)
spans_of (HandshakeEx e) = []
