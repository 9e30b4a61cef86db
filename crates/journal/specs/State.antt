-- A state: the table at the last checkpoint (document 01's mark) and the orders that stand after it. The present table is
-- what they make of it in turn. Assumes nothing.
use Rattle.std.specs.Prelude.{ℕ, ◌+◌, Bool, true, List, [], ◌∷◌, eqb, length}
use Rattle.wire.specs.Tests.{both}
use Rattle.table.specs.Table.{Table, number, after}

pub record State : Type 0 where
  pub marked : Table
  pub log : List (List ℕ)

unfoldable pub run : Table → List (List ℕ) → Table
run t [] = t
run t (o ∷ os) = run (after t o) os

abbrev pub present : State → Table
present s = run s.marked s.log

-- the bytes of orders in all
unfoldable pub bytes_in : List (List ℕ) → ℕ
bytes_in [] = 0
bytes_in (o ∷ os) = length o + bytes_in os

-- each order is accepted in its turn
unfoldable pub all_accepted : Table → List (List ℕ) → Bool
all_accepted t [] = true
all_accepted t (o ∷ os) = both (eqb (number t o) 0) (all_accepted (after t o) os)
