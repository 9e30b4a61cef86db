-- The rule "this memory describes an index". Assumes nothing.
use Rattle.std.specs.Prelude.{ℕ, zero, suc, ◌+◌, ◌*◌, ◌/◌, ◌%◌, ◌≤◌, ◌<◌, ◌≡◌, Bool, true, false, not, List, eqb, ltb, length, get_or}
use Rattle.wire.specs.Tests.{pick, both}
use Rattle.places.specs.declared.Family.{Family}
use Rattle.places.specs.declared.Family.TheVariants.{Windows, Notifications}
use Rattle.places.specs.Counts.{first_from, on_found}
use Rattle.places.specs.Memory.{pointer_at, valid}
use Rattle.places.specs.Holder.{icon_number}
use Rattle.slots.specs.Families.{start, capacity, highest, index_length}
use Rattle.slots.specs.Slots.{used_at, first_id, second_id, is_used, is_at}

-- each of n numbers from i on passes a test
unfoldable pub each_from : ℕ → ℕ → (ℕ → Bool) → Bool
each_from zero i test = true
each_from (suc n) i test = both (test i) (each_from n (i + 1) test)

-- the icons of slot i point at nothing
unfoldable pub no_pointers : List ℕ → ℕ → Bool
no_pointers x i =
    both (eqb (pointer_at x (icon_number i 0)) 0)
    (both (eqb (pointer_at x (icon_number i 1)) 0)
    (eqb (pointer_at x (icon_number i 2)) 0))

-- slot i has no record and no pointers, or is the first of its family with its ids; a window's second id is 0
unfoldable pub slot_ok : List ℕ → ℕ → ℕ → ℕ → ℕ → Bool
slot_ok x first count top i =
    pick (eqb (used_at x i) 0) (no_pointers x i)
    (pick (not (eqb (used_at x i) 1)) false
    (pick (ltb top (second_id x i)) false
    (on_found (first_from count first (is_at x (first_id x i) (second_id x i))) false (λ j. eqb j i))))

abbrev pub family_ok : List ℕ → Family → Bool
family_ok x f = each_from (capacity f) (start f) (slot_ok x (start f) (capacity f) (highest f))

unfoldable pub sound_index : List ℕ → Bool
sound_index x =
    pick (ltb (length x) index_length) false
    (pick (not (valid x)) false
    (pick (not (family_ok x Windows)) false
    (family_ok x Notifications)))

-- ---- for the contracts

-- the mark of a pair of ids, one of 256: their bytes mixed
unfoldable pub mark_of : ℕ → ℕ → ℕ
mark_of a b = (a * 0x61C88647 + b * 0x045D9F3B) / 16777216 % 256

-- marks of the ids in slots first to i: the first slot with the mark, counted from 1; 0 where none has it
pub record Seen (seen x : List ℕ) (first i : ℕ) : Type 0 where
  pub long : length seen ≡ 256
  pub within : (k : ℕ) → (get_or seen k 0 ≡ 0 → ⊥) → (first < get_or seen k 0) × (get_or seen k 0 ≤ i)
  pub marked : (j : ℕ) → first ≤ j → j < i → is_used x j ≡ true
      → (get_or seen (mark_of (first_id x j) (second_id x j)) 0 ≡ 0 → ⊥) × (get_or seen (mark_of (first_id x j) (second_id x j)) 0 ≤ j + 1)
