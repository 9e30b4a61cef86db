-- Writing the orders of a journal as a record. Assumes nothing.
use Rattle.std.specs.Prelude.{ℕ, ◌≤◌, ◌≡◌, Bool, true, List, leb, length}
use Rattle.wire.specs.Tests.{pick}
use Rattle.wire.specs.Parts.{splice}
use Rattle.journal.specs.Limits.{most_orders, log_start, journal_length}
use Rattle.journal.specs.Journal.{end_from, within_from}

-- a journal with count orders that end at index end, within its limits: what a validation established
pub record Within (journal : List ℕ) (count end : ℕ) : Type 0 where
  pub room : journal_length ≤ length journal
  pub few : count ≤ most_orders
  pub orders : within_from count log_start journal ≡ true
  pub ends : end ≡ end_from count log_start journal
  pub low : log_start ≤ end
  pub high : end ≤ journal_length

-- the output has room for the record
abbrev pub fits_in : List ℕ → List ℕ → Bool
fits_in r out = leb (length r) (length out)

-- the record stands at the start of the output, and the bytes after it are as they were; all are where there is no room
unfoldable pub out_after_of : List ℕ → List ℕ → List ℕ
out_after_of r out = pick (fits_in r out) (splice out 0 r) out
