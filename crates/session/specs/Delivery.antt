-- One order judged on what a validation established, and appended: its number and slot, and the journal, index and extent after
-- it, from which the next order is judged. Assumes nothing.
use Rattle.std.specs.Prelude.{ℕ, ◌+◌, ◌-◌, ◌≤◌, ◌≡◌, Bool, true, List, eqb, ltb, length}
use Rattle.wire.specs.Tests.{pick, either}
use Rattle.wire.specs.Numbers.{bytes_of}
use Rattle.wire.specs.Parts.{splice}
use Rattle.places.specs.Held.{HeldBelow}
use Rattle.slots.specs.Sound.{sound_index}
use Rattle.index.specs.declared.Stepped.{Stepped}
use Rattle.index.specs.Plans.{plan_of, plan_slot}
use Rattle.index.specs.Steps.{step_number, step_held}
use Rattle.journal.specs.declared.JournalExtent.{JournalExtent}
use Rattle.journal.specs.Limits.{most_orders, most_bytes, log_start, journal_length}
use Rattle.journal.specs.Replay.{index_after}

-- what a validation established
pub record Ready (d j : List ℕ) (w : JournalExtent) : Type 0 where
  pub sound : sound_index d ≡ true
  pub few : w.count ≤ most_orders
  pub low : log_start ≤ w.end
  pub high : w.end ≤ journal_length
  pub long : journal_length ≤ length j

-- 12
abbrev pub is_full : JournalExtent → List ℕ → Bool
is_full w s = either (ltb most_orders (w.count + 1)) (ltb most_bytes (w.end - log_start + length s))

-- the first of the numbers 2 to 12 and 17 that applies
unfoldable pub number_on : List ℕ → JournalExtent → List ℕ → ℕ
number_on d w s = step_number (is_full w s) (plan_of d s)

abbrev pub appended : List ℕ → JournalExtent → List ℕ → List ℕ
appended journal w s = splice (splice journal w.end s) 0 (bytes_of 2 (w.count + 1))

abbrev pub one_more : JournalExtent → List ℕ → JournalExtent
one_more w s = record { count = w.count + 1; end = w.end + length s }

pub record DeliveredOn (d j s : List ℕ) (w : JournalExtent) (r : Stepped) (d' j' : List ℕ) : Type 0 where
  pub number : r.number ≡ number_on d w s
  pub slot : r.slot ≡ plan_slot (plan_of d s)
  pub held : r.held ≡ step_held (is_full w s) (plan_of d s)
  pub holds : HeldBelow d' r.held
  pub index : d' ≡ pick (eqb (number_on d w s) 0) (index_after d s) d
  pub journal : j' ≡ pick (eqb (number_on d w s) 0) (appended j w s) j
