-- Reading and writing in the counter profile: as by the plain rules, then 20 for a kind from the wrong end, then 21 for a program not permitted. Assumes nothing.
use Rattle.std.specs.Prelude.{ℕ, List, ◌≡◌, length, Option, Some, None, Result, Ok, Err}
use Rattle.wire.specs.Tests.{pick}
use Rattle.pdu.specs.declared.Pdu.{Pdu}
use Rattle.protocol.specs.declared.Refusal.{Refusal}
use Rattle.protocol.specs.declared.Refusal.TheVariants.{OutsideSet, WrongEnd, NotPermitted}
use Rattle.pdu.specs.Reading.{read_of}
use Rattle.pdu.specs.Writing.{encode, written_of, out_with}
use Rattle.pdu_words.specs.FromWords.{stand, pdu_of}
use Rattle.pdu_put.specs.WordsWritten.{unless}
use Rattle.profile.specs.Ends.{reads, writes}
use Rattle.profile.specs.Programs.{permitted}

-- ---- reading

-- what the plain rules read, where a server sends it
unfoldable pub passed : Result Pdu Refusal → Result Pdu Refusal
passed (Ok p) = pick (reads p) (Ok p) (Err WrongEnd)
passed (Err e) = Err e

unfoldable pub counter_read : List ℕ → Result Pdu Refusal
counter_read s = passed (read_of s)

-- ---- writing

-- the first refusal of the profile that applies to a record
unfoldable pub verdict : Pdu → List ℕ → Option Refusal
verdict p src = pick (writes p) (pick (permitted p src) None (Some NotPermitted)) (Some WrongEnd)

-- after the plain ones, where the output memory lent has n bytes
unfoldable pub counter_written : Pdu → List ℕ → ℕ → Result ℕ Refusal
counter_written p src n = unless (verdict p src) (written_of p src n)

-- the output memory after the call: only the first bytes change, and none on a refusal
unfoldable pub counter_out : Pdu → List ℕ → List ℕ → List ℕ
counter_out p src out = out_with (counter_written p src (length out)) (encode p src) out

-- ---- writing the record that words stand for, outside their set where they stand for none

unfoldable pub counter_words_written : List ℕ → List ℕ → ℕ → Result ℕ Refusal
counter_words_written w src n = pick (stand w) (counter_written (pdu_of w) src n) (Err OutsideSet)

unfoldable pub counter_words_out : List ℕ → List ℕ → List ℕ → List ℕ
counter_words_out w src out = pick (stand w) (counter_out (pdu_of w) src out) out

pub record CounterOutcome (w src out : List ℕ) (r : Result ℕ Refusal) (out' : List ℕ) : Type 0 where
  pub answer : r ≡ counter_words_written w src (length out)
  pub memory : out' ≡ counter_words_out w src out
