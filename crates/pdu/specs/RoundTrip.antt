-- The round trip: what is written reads back, and what is read is written back. Assumes nothing.
use Rattle.std.specs.Prelude.{ℕ, ◌+◌, ◌<◌, Bool, true, List, [], ◌∷◌, ◌≡◌, eqb, ℤ, length, get_or, take, Result, Ok, Err}
use Rattle.wire.specs.Tests.{pick, both}
use Rattle.wire.specs.Parts.{splice}
use Rattle.wire.specs.Numbers.{num_at, all_fit}
use Rattle.signs.specs.TwosComplement.{holds}
use Rattle.pdu.specs.declared.Pdu.{Pdu}
use Rattle.pdu.specs.declared.Pdu.TheVariants.{Execute, Activate, SystemCommand, Handshake, NotifyEvent, WindowMove, MoveSize, MinMaxInfo, ClientInformation, SystemMenu, GetApplicationId, ApplicationIdResponse, ExecuteResult, SystemParameters, HandshakeEx}
use Rattle.protocol.specs.declared.Refusal.{Refusal}
use Rattle.protocol.specs.Refusals.{answers, says}
use Rattle.pdu.specs.Settings.{number_of, data_of, setting_with, moved}
use Rattle.pdu.specs.Records.{span, is_yes, yes_number, nums_of, positions_of, widths_of, size_of}
use Rattle.pdu.specs.Reading.{type_at, record_as, read_of, read_number}
use Rattle.pdu.specs.Writing.{strings_of, encode, grants, written_of, written_number, out_after_of}

-- the same record with its strings where writing puts them; an application id has all 520 bytes there
unfoldable pub rebased : Pdu → Pdu
rebased (Execute e) =
    Execute (record {
      flags = e.flags;
      exe_or_file = span 12 e.exe_or_file.len;
      working_dir = span (12 + e.exe_or_file.len) e.working_dir.len;
      arguments = span (12 + e.exe_or_file.len + e.working_dir.len) e.arguments.len;
    })
rebased (Activate e) = Activate e
rebased (SystemCommand e) = SystemCommand e
rebased (Handshake e) = Handshake e
rebased (NotifyEvent e) = NotifyEvent e
rebased (WindowMove e) = WindowMove e
rebased (MoveSize e) = MoveSize e
rebased (MinMaxInfo e) = MinMaxInfo e
rebased (ClientInformation e) = ClientInformation e
rebased (SystemMenu e) = SystemMenu e
rebased (GetApplicationId e) = GetApplicationId e
rebased (ApplicationIdResponse e) = ApplicationIdResponse (record { window_id = e.window_id; application_id = span 8 520 })
rebased (ExecuteResult e) =
    ExecuteResult (record { flags = e.flags; exec_result = e.exec_result; raw_result = e.raw_result; exe_or_file = span 16 e.exe_or_file.len })
rebased (SystemParameters e) = SystemParameters (record { setting = setting_with (number_of e.setting) (moved (data_of e.setting)) })
rebased (HandshakeEx e) = HandshakeEx e

-- w bytes have a number for each of these values
unfoldable pub all_hold : ℕ → List ℤ → Bool
all_hold w [] = true
all_hold w (z ∷ zs) = both (holds w z) (all_hold w zs)

-- the numbers and positions of a record fit their fields, as those of every value in memory that writing grants do
unfoldable pub typed : Pdu → Bool
typed p = both (all_fit (widths_of p) (nums_of p)) (all_hold 2 (positions_of p))

-- the bytes of a message with Padding 0 and a nonzero start 1
unfoldable pub tidy_as : ℕ → List ℕ → List ℕ
tidy_as k b =
    pick (eqb k 0x09) (splice b 8 (yes_number (is_yes (num_at 2 b 8)) ∷ 0 ∷ []))
    (pick (eqb k 0x80) (splice b 12 (0 ∷ 0 ∷ [])) b)

unfoldable pub tidy : List ℕ → List ℕ
tidy b = tidy_as (num_at 2 b 0) b

-- bytes that read back as the record p with its strings from src: the same fields, and the same strings where they now stand
pub record ReadsBack (b : List ℕ) (p : Pdu) (src : List ℕ) : Type 0 where
  pub message : read_of b ≡ Ok (rebased p)
  pub strings : strings_of (rebased p) b ≡ strings_of p src

-- a record that is granted when it is written from b, and gives b again, but for Padding and start
pub record WritesBack (b : List ℕ) (p : Pdu) : Type 0 where
  pub granted : grants p b ≡ true
  pub bytes : encode p b ≡ tidy b

-- each is a byte, as in every memory that is lent
abbrev pub EachByte : List ℕ → Type 0
EachByte s = (i : ℕ) → get_or s i 0 < 256

-- the one account over all kinds
pub record RoundTrip : Type 0 where
  pub written : (p : Pdu) (src : List ℕ) → grants p src ≡ true → typed p ≡ true → ReadsBack (encode p src) p src
  pub read : (b : List ℕ) (p : Pdu) → EachByte b → read_of b ≡ Ok p → WritesBack b p

-- ---- the same of an answer

abbrev pub WrittenBack : Result ℕ Refusal → Pdu → List ℕ → List ℕ → Type 0
WrittenBack (Ok n) p src out = ReadsBack (take n out) p src
WrittenBack (Err e) p src out = Unit {0}

abbrev pub ReadAgain : Result Pdu Refusal → List ℕ → Type 0
ReadAgain (Ok p) b = WritesBack b p
ReadAgain (Err e) b = Unit {0}

-- the whole outcome of reading s, and of writing p from src to out, which is then out'
pub record ReadOutcome (s : List ℕ) (r : Result Pdu Refusal) : Type 0 where
  pub says : says r ≡ answers (read_number s) (record_as (type_at s) s)
  pub answer : r ≡ read_of s
  pub again : ReadAgain r s

pub record WriteOutcome (p : Pdu) (src out : List ℕ) (r : Result ℕ Refusal) (out' : List ℕ) : Type 0 where
  pub says : says r ≡ answers (written_number p src (length out)) (size_of p)
  pub answer : r ≡ written_of p src (length out)
  pub memory : out' ≡ out_after_of p src out
  pub back : WrittenBack r p src out'
