-- The needed lengths of the state memory, and the room of the history. Assumes nothing.
use Rattle.std.specs.Prelude.{ℕ}

-- the history room: so many orders after the mark, and so many bytes of theirs
abbrev pub most_orders : ℕ
most_orders = 128

abbrev pub most_bytes : ℕ
most_bytes = 32768

-- the journal: the count in its first 2 bytes, then room for the orders' bytes
abbrev pub log_start : ℕ
log_start = 2

abbrev pub journal_length : ℕ
journal_length = 32770
