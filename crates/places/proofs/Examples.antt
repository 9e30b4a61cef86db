-- A memory of 12 places, worked out: the rule is met, and 17 is as the request has it. Assumes nothing.
use mathlib.Core.Path.{◌≡◌, refl}
use mathlib.Core.Bool.{true, false}
use mathlib.Core.List.{List, [], ◌∷◌}
use Prim.Native.Nat.{ℕ}
use lib.Dec.{eqb}
use lib.ListN.{replicate}
use Rattle.std.specs.Prelude.{Some, None}
use Rattle.places.specs.Counts.{count_below, each_below, first_from}
use Rattle.places.specs.Sharing.{drop, full}
use Rattle.places.specs.Memory.{places_of, pointer_at, count_at, is_free, used_of, sharing_of, decode, valid}
use Rattle.places.specs.Changes.{free_place}

-- cells 0 to 10 at places 0 to 10; the first icon shares cell 0's place, the second has place 11
some_memory : List ℕ
some_memory = 12 ∷ 1 ∷ 2 ∷ 3 ∷ 4 ∷ 5 ∷ 6 ∷ 7 ∷ 8 ∷ 9 ∷ 10 ∷ 11 ∷ 0 ∷ 1 ∷ 12 ∷ replicate 142 0

example_valid : valid some_memory ≡ true
unfolding some_memory valid places_of pointer_at each_below
example_valid = refl

example_users : ((decode some_memory).users 0 ≡ 2) × ((decode some_memory).used ≡ 12) × ((decode some_memory).shares 12 0 ≡ true) × ((decode some_memory).shares 12 13 ≡ false)
unfolding some_memory decode sharing_of places_of pointer_at used_of is_free count_at count_below
example_users = (refl, refl, refl, refl)

-- every place is pointed at: 17 for the icon of cell 0 and the third pointer, whose place the first pointer keeps
example_full : full eqb (0 ∷ 14 ∷ []) (decode some_memory) ≡ true
unfolding some_memory full drop decode sharing_of places_of pointer_at used_of is_free count_at count_below
example_full = refl

-- not for cell 0 and the first pointer, nor for cell 5, nor for the second pointer alone
example_free : (full eqb (0 ∷ 12 ∷ []) (decode some_memory) ≡ false) × (full eqb (5 ∷ 14 ∷ []) (decode some_memory) ≡ false) × (full eqb (13 ∷ []) (decode some_memory) ≡ false)
unfolding some_memory full drop decode sharing_of places_of pointer_at used_of is_free count_at count_below
example_free = (refl, refl, refl)

example_place : (free_place some_memory (5 ∷ 14 ∷ []) ≡ Some 5) × (free_place some_memory (0 ∷ 14 ∷ []) ≡ None)
unfolding some_memory free_place first_from places_of pointer_at is_free count_at count_below
example_place = (refl, refl)
