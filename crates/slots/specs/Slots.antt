-- The slots of the index, behind the bytes of `places`: used 1, window id 4, notify-icon id 4; 32 of windows, then 16 of
-- notification icons. Assumes nothing.
use Rattle.std.specs.Prelude.{ℕ, ◌+◌, ◌-◌, Bool, not, List, eqb, Option}
use Rattle.wire.specs.Tests.{both}
use Rattle.wire.specs.Numbers.{num_at}
use Rattle.places.specs.declared.Family.{Family}
use Rattle.places.specs.Counts.{first_from, on_found, count_below}
use Rattle.slots.specs.declared.Searched.{Searched}
use Rattle.slots.specs.Families.{start, capacity, slot_at}

unfoldable pub used_at : List ℕ → ℕ → ℕ
used_at x i = num_at 1 x (slot_at i)

unfoldable pub first_id : List ℕ → ℕ → ℕ
first_id x i = num_at 4 x (slot_at i + 1)

unfoldable pub second_id : List ℕ → ℕ → ℕ
second_id x i = num_at 4 x (slot_at i + 5)

-- slot i has a record
unfoldable pub is_used : List ℕ → ℕ → Bool
is_used x i = eqb (used_at x i) 1

abbrev pub is_free : List ℕ → ℕ → Bool
is_free x i = not (is_used x i)

-- it has the record of the ids a and b
unfoldable pub is_at : List ℕ → ℕ → ℕ → ℕ → Bool
is_at x a b i = both (is_used x i) (both (eqb (first_id x i) a) (eqb (second_id x i) b))

-- the slot of a record
abbrev pub slot_of : List ℕ → Family → ℕ → ℕ → Option ℕ
slot_of x f a b = first_from (capacity f) (start f) (is_at x a b)

-- the first slot of a family that has no record
abbrev pub free_of : List ℕ → Family → Option ℕ
free_of x f = first_from (capacity f) (start f) (is_free x)

-- the records of a family
abbrev pub many_in : List ℕ → Family → ℕ
many_in x f = count_below (capacity f) (λ k. is_used x (start f + k))

-- request No. 3: the first of n slots from i on that passes a test, and how many the search looks at: its place counted from
-- 1, or all of them
unfoldable pub search_from : ℕ → ℕ → (ℕ → Bool) → Searched
search_from n i test = record { found = first_from n i test; looked = on_found (first_from n i test) n (λ j. j - i + 1) }

abbrev pub search_of : List ℕ → Family → ℕ → ℕ → Searched
search_of x f a b = search_from (capacity f) (start f) (is_at x a b)

-- a slot's own bytes
unfoldable pub slot_has : List ℕ → ℕ → ℕ → Bool
slot_has slot a b = both (eqb (num_at 1 slot 0) 1) (both (eqb (num_at 4 slot 1) a) (eqb (num_at 4 slot 5) b))
