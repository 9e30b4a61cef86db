-- Which program a registry counter may start: a published one, whose name is neither a file's nor an application user model id. Assumes nothing.
use Rattle.std.specs.Prelude.{ℕ, ◌/◌, ◌%◌, Bool, true, false, List, [], ◌∷◌, eqb, ltb, length}
use Rattle.wire.specs.Tests.{both, all}
use Rattle.pdu.specs.declared.Execute as E
use Rattle.pdu.specs.declared.Pdu.{Pdu}
use Rattle.pdu.specs.declared.Pdu.TheVariants.{Execute, Activate, SystemCommand, Handshake, NotifyEvent, WindowMove, MoveSize, MinMaxInfo, ClientInformation, SystemMenu, GetApplicationId, ApplicationIdResponse, ExecuteResult, SystemParameters, HandshakeEx}
use Rattle.pdu.specs.Writing.{part_of}

-- what the name of a published program begins with
abbrev pub prefix : List ℕ
prefix = 0x7C ∷ 0x00 ∷ 0x7C ∷ 0x00 ∷ []

abbrev pub begins : List ℕ → List ℕ → Bool
begins [] [] = true
begins (y ∷ s) [] = true
begins [] (x ∷ xs) = false
begins (y ∷ s) (x ∷ xs) = both (eqb y x) (begins s xs)

-- it is longer than that
abbrev pub published : List ℕ → Bool
published name = both (ltb (length prefix) (length name)) (begins name prefix)

-- neither 0002, 0004 nor 0010 is among the flags
abbrev pub plain_flags : ℕ → Bool
plain_flags f = all (eqb (f / 0x02 % 2) 0 ∷ eqb (f / 0x04 % 2) 0 ∷ eqb (f / 0x10 % 2) 0 ∷ [])

abbrev pub execute_permitted : E.Execute → List ℕ → Bool
execute_permitted e src = both (plain_flags e.flags) (published (part_of src e.exe_or_file))

-- a record, its strings taken from src, starts no program that is not permitted
unfoldable pub permitted : Pdu → List ℕ → Bool
permitted (Execute e) src = execute_permitted e src
permitted (Activate e) src = true
permitted (SystemCommand e) src = true
permitted (Handshake e) src = true
permitted (NotifyEvent e) src = true
permitted (WindowMove e) src = true
permitted (MoveSize e) src = true
permitted (MinMaxInfo e) src = true
permitted (ClientInformation e) src = true
permitted (SystemMenu e) src = true
permitted (GetApplicationId e) src = true
permitted (ApplicationIdResponse e) src = true
permitted (ExecuteResult e) src = true
permitted (SystemParameters e) src = true
permitted (HandshakeEx e) src = true
