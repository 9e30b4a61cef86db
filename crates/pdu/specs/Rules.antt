-- Rules for number 8: the sets that the numbers of a record are in. Assumes nothing.
use Rattle.std.specs.Prelude.{ℕ, ◌/◌, ◌%◌, Bool, true, List, [], ◌∷◌, ltb, leb, eqb}
use Rattle.wire.specs.Tests.{both, either, all}
use Rattle.pdu.specs.declared.Execute as E
use Rattle.pdu.specs.declared.ExecuteResult as X
use Rattle.pdu.specs.declared.Pdu.{Pdu}
use Rattle.pdu.specs.declared.Pdu.TheVariants.{Execute, Activate, SystemCommand, Handshake, NotifyEvent, WindowMove, MoveSize, MinMaxInfo, ClientInformation, SystemMenu, GetApplicationId, ApplicationIdResponse, ExecuteResult, SystemParameters, HandshakeEx}
use Rattle.pdu.specs.Layout.{one_of}
use Rattle.pdu.specs.Settings.{data_of, data_allowed}

-- a string of low to high bytes, an even number of them (house rule)
abbrev pub text_ok : ℕ → ℕ → ℕ → Bool
text_ok low high n = all (leb low n ∷ leb n high ∷ eqb (n % 2) 0 ∷ [])

-- no flag above 0010; 0002 needs 0004
abbrev pub execute_flags_ok : ℕ → Bool
execute_flags_ok f = both (ltb f 0x20) (either (eqb (f / 2 % 2) 0) (eqb (f / 4 % 2) 1))

-- SC_SIZE, SC_MOVE, SC_MINIMIZE, SC_MAXIMIZE, SC_CLOSE, SC_KEYMENU, SC_RESTORE, SC_DEFAULT
abbrev pub commands : List ℕ
commands = 0xF000 ∷ 0xF010 ∷ 0xF020 ∷ 0xF030 ∷ 0xF060 ∷ 0xF100 ∷ 0xF120 ∷ 0xF160 ∷ []

abbrev pub exec_results : List ℕ
exec_results = 0 ∷ 1 ∷ 2 ∷ 3 ∷ 5 ∷ 6 ∷ 7 ∷ []

abbrev pub execute_allowed : E.Execute → Bool
execute_allowed e =
    all
    (text_ok 1 520 e.exe_or_file.len
    ∷ text_ok 0 520 e.working_dir.len
    ∷ text_ok 0 16000 e.arguments.len
    ∷ execute_flags_ok e.flags
    ∷ [])

abbrev pub move_size_type_ok : ℕ → Bool
move_size_type_ok v = both (leb 1 v) (leb v 11)

abbrev pub execute_result_allowed : X.ExecuteResult → Bool
execute_result_allowed e =
    all (one_of e.exec_result exec_results ∷ leb 1 e.exe_or_file.len ∷ leb e.exe_or_file.len 520 ∷ [])

-- each number of a record is in its set
unfoldable pub allowed : Pdu → Bool
allowed (Execute e) = execute_allowed e
allowed (Activate e) = leb e.enabled 1
allowed (SystemCommand e) = one_of e.command commands
allowed (MoveSize e) = move_size_type_ok e.move_size_type
allowed (ApplicationIdResponse e) = leb e.application_id.len 520
allowed (ExecuteResult e) = execute_result_allowed e
allowed (SystemParameters e) = data_allowed (data_of e.setting)
allowed (Handshake e) = true
allowed (NotifyEvent e) = true
allowed (WindowMove e) = true
allowed (MinMaxInfo e) = true
allowed (ClientInformation e) = true
allowed (SystemMenu e) = true
allowed (GetApplicationId e) = true
allowed (HandshakeEx e) = true
