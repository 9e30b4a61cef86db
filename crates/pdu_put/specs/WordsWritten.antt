-- Writing the record that words stand for: as that record is written, and outside their set where they stand for none; a further refusal after these. Assumes nothing.
use Rattle.std.specs.Prelude.{ℕ, List, ◌≡◌, length, Option, Some, None, Result, Ok, Err, IsErrAnd}
use Rattle.wire.specs.Tests.{pick}
use Rattle.protocol.specs.declared.Refusal.{Refusal}
use Rattle.protocol.specs.declared.Refusal.TheVariants.{OutsideSet}
use Rattle.pdu.specs.declared.Pdu.{Pdu}
use Rattle.pdu.specs.Writing.{written_of, out_after_of}
use Rattle.pdu_words.specs.FromWords.{stand, pdu_of}

unfoldable pub words_written_of : List ℕ → List ℕ → ℕ → Result ℕ Refusal
words_written_of w src n = pick (stand w) (written_of (pdu_of w) src n) (Err OutsideSet)

unfoldable pub words_out_after : List ℕ → List ℕ → List ℕ → List ℕ
words_out_after w src out = pick (stand w) (out_after_of (pdu_of w) src out) out

pub record WordsOutcome (w src out : List ℕ) (r : Result ℕ Refusal) (out' : List ℕ) : Type 0 where
  pub answer : r ≡ words_written_of w src (length out)
  pub memory : out' ≡ words_out_after w src out

-- the same unless a further refusal applies after those of the record
unfoldable pub unless : Option Refusal → Result ℕ Refusal → Result ℕ Refusal
unless None a = a
unless (Some k) (Ok n) = Err k
unless (Some k) (Err e) = Err e

-- the output memory out' after it, which is out where the further refusal applies
unfoldable pub out_unless : {E : Type 0} → Option E → List ℕ → List ℕ → List ℕ
out_unless None out' out = out'
out_unless (Some k) out' out = out

-- writing the record that words stand for
pub record UnlessOutcome (w src out : List ℕ) (k : Option Refusal) (r : Result ℕ Refusal) (out' : List ℕ) : Type 0 where
  pub answer : r ≡ unless k (words_written_of w src (length out))
  pub memory : out' ≡ out_unless k (words_out_after w src out) out

-- ---- the same in errors of any type, as numbers: gives tells the errors that stand for a refusal

abbrev pub bytes_unless : {E : Type 0} → Option E → ℕ → Result ℕ E
bytes_unless None n = Ok n
bytes_unless (Some x) n = Err x

-- r is the answer a unless the further error k applies after its refusals
abbrev pub IsUnless : {E : Type 0} → (Refusal → E → Type 0) → Option E → Result ℕ Refusal → Result ℕ E → Type 0
IsUnless gives k (Ok n) r = r ≡ bytes_unless k n
IsUnless gives k (Err e) r = IsErrAnd r (gives e)

-- writing the record p
pub record MessageOutcome {E : Type 0} (gives : Refusal → E → Type 0) (p : Pdu) (src out : List ℕ) (k : Option E) (r : Result ℕ E) (out' : List ℕ) : Type 0 where
  pub answer : IsUnless gives k (written_of p src (length out)) r
  pub memory : out' ≡ out_unless k (out_after_of p src out) out

-- writing the record that words stand for
pub record FurtherOutcome {E : Type 0} (gives : Refusal → E → Type 0) (w src out : List ℕ) (k : Option E) (r : Result ℕ E) (out' : List ℕ) : Type 0 where
  pub answer : IsUnless gives k (words_written_of w src (length out)) r
  pub memory : out' ≡ out_unless k (words_out_after w src out) out
