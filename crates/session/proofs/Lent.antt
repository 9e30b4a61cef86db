-- A store that lends so many places: what holds in each store, and does not speak of it, holds. Assumes nothing.
use mathlib.Core.Path.{◌≡◌}
use mathlib.Core.List.{List, [], ◌∷◌}
use Prim.Native.Nat.{ℕ, ◌*◌}
use native.Mathlib.Omega.{arith}
use lib.ListN.{length, replicate, length-replicate}
use Rattle.store.specs.Store.{place_length, places_in}

pub a_store : ℕ → List (List ℕ)
a_store lent = replicate (place_length * lent) 0 ∷ []

pub a_store_lends : (lent : ℕ) → places_in (a_store lent) ≡ lent
unfolding a_store places_in
a_store_lends lent = let n : length (replicate {A = ℕ} (place_length * lent) 0) ≡ place_length * lent = length-replicate {A = ℕ} (place_length * lent) 0 in rw n (omega arith)
