-- A journal that stands in a memory. Assumes nothing.
use Rattle.std.specs.Prelude.{Some, ◌≡◌, true}
use Rattle.journal.specs.declared.JournalExtent.{JournalExtent}
use Rattle.journal.specs.View.{Memory, meets_rule}
use Rattle.journal.specs.Replay.{extent_of}

-- the memory is well formed, and w is the extent of its journal
pub record Stands (m : Memory) (w : JournalExtent) : Type 0 where
  pub met : meets_rule m ≡ true
  pub extent : Some w ≡ extent_of m
