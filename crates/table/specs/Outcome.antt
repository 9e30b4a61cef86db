-- The whole outcome of emptying a table and of a delivery to it. Assumes nothing.
use Rattle.std.specs.Prelude.{ℕ, ◌≤◌, ◌≡◌, true, List, map, length, drop}
use Rattle.places.specs.Memory.{places_of}
use Rattle.slots.specs.Families.{index_length}
use Rattle.store.specs.Store.{places_in, place_at}
use Rattle.store.specs.Kept.{past_places}
use Rattle.table.specs.Table.{emptied, number, after}
use Rattle.table.specs.Memory.{bodies_length, fixed_by, decode, sound_table}

-- no byte of a part past its whole places, and none of a place past the first n, changes
pub record StoreKept (n : ℕ) (p p' : List (List ℕ)) : Type 0 where
  pub lengths : map length p' ≡ map length p
  pub past : past_places p' ≡ past_places p
  pub others : (q : ℕ) → n ≤ q → place_at p' q ≡ place_at p q

-- the bytes of index and bodies past the needed lengths are as they were
pub record PastKept (x b x' b' : List ℕ) : Type 0 where
  pub index : drop index_length x' ≡ drop index_length x
  pub bodies : drop bodies_length b' ≡ drop bodies_length b

-- so many places are lent, whatever store they are in
pub record Emptied (x b : List ℕ) (lent : ℕ) (x' b' : List ℕ) : Type 0 where
  pub table : (p : List (List ℕ)) → decode x' b' p ≡ emptied (fixed_by lent)
  pub sound : sound_table x' b' lent ≡ true
  pub past : PastKept x b x' b'

-- the number; index, bodies and store then describe the table after the order; a refused order changes no byte, and no order one past
-- the needed lengths or past the places that were fixed
pub record Delivered (x b : List ℕ) (p : List (List ℕ)) (s : List ℕ) (r : ℕ) (x' b' : List ℕ) (p' : List (List ℕ)) : Type 0 where
  pub says : r ≡ number (decode x b p) s
  pub table : decode x' b' p' ≡ after (decode x b p) s
  pub sound : sound_table x' b' (places_in p') ≡ true
  pub places : places_of x' ≡ places_of x
  pub kept : (r ≡ 0 → ⊥) → (x' ≡ x) × (b' ≡ b) × (p' ≡ p)
  pub past : PastKept x b x' b'
  pub store : StoreKept (places_of x) p p'
