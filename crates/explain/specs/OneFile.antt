-- A state whose parts stand end to end, then its places. Assumes nothing.
use Rattle.std.specs.Prelude.{ℕ, ◌+◌, List, [], ◌∷◌, drop}
use Rattle.wire.specs.Parts.{slice}
use Rattle.figure.specs.Kept.{kept_length}
use Rattle.table.specs.Memory.{bodies_length}
use Rattle.journal.specs.Limits.{journal_length}
use Rattle.journal.specs.View.{Memory, memory}

-- where the bodies, the journal and the places begin
abbrev pub bodies_at : ℕ
bodies_at = kept_length

abbrev pub journal_at : ℕ
journal_at = bodies_at + bodies_length

abbrev pub places_at : ℕ
places_at = journal_at + journal_length

abbrev pub memory_in : List ℕ → Memory
memory_in f =
    memory (slice f 0 bodies_at) (slice f bodies_at bodies_length) (drop places_at f ∷ []) (slice f journal_at journal_length)
