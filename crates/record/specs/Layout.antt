-- A session record: how many orders, 2 bytes; the table of contents, for each order the offset of its
-- body from the record's start, 4 bytes, and its size, 4 bytes; the bodies in that order, touching, and nothing after them.
-- Assumes nothing.
use Rattle.std.specs.Prelude.{ℕ, ◌+◌, ◌*◌, ◌≤◌, List, [], ◌∷◌, ◌++◌, length}
use Rattle.wire.specs.Numbers.{bytes_of, put_all}
use Rattle.journal.specs.Limits.{most_orders, most_bytes}
use Rattle.journal.specs.State.{bytes_in}
use Rattle.record.specs.declared.Entry.{Entry}

-- where a body lies: its offset from the record's start, and its size
abbrev pub entry : ℕ → ℕ → Entry
entry p n = record { offset = p; size = n }

-- the bytes before the bodies of n orders
abbrev pub head_of : ℕ → ℕ
head_of n = 2 + 8 * n

-- the entries of orders whose bodies touch, from offset p on
unfoldable pub layout_from : ℕ → List (List ℕ) → List Entry
layout_from p [] = []
layout_from p (o ∷ os) = entry p (length o) ∷ layout_from (p + length o) os

-- the bytes of a table of contents
unfoldable pub table_of : List Entry → List ℕ
table_of [] = []
table_of (e ∷ es) = put_all (4 ∷ 4 ∷ []) (e.offset ∷ e.size ∷ []) ++ table_of es

-- the bodies, touching
unfoldable pub joined : List (List ℕ) → List ℕ
joined [] = []
joined (o ∷ os) = o ++ joined os

-- the one record of a list of orders
unfoldable pub record_of : List (List ℕ) → List ℕ
record_of os = bytes_of 2 (length os) ++ (table_of (layout_from (head_of (length os)) os) ++ joined os)

-- the most bytes that a record has
abbrev pub most_record : ℕ
most_record = head_of most_orders + most_bytes

-- the limits of a journal, and of a record
pub record Limits (os : List (List ℕ)) : Type 0 where
  pub few : length os ≤ most_orders
  pub small : bytes_in os ≤ most_bytes
