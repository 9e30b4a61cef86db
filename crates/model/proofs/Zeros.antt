-- Memory of zeros does not meet the rule: it has no place. Assumes nothing.
use Prim.Native.Nat.{ℕ, zero, suc}
use mathlib.Core.Path.{◌≡◌, refl}
use mathlib.Core.Bool.{Bool, true, false}
use mathlib.Core.List.{List}
use lib.Dec.{leb, ltb}
use lib.ListN.{length, replicate}
use Rattle.wire.specs.Tests.{pick}
use Rattle.places.specs.Sizes.{holders_length}
use Rattle.places.specs.Memory.{places_of, valid}
use Rattle.slots.specs.Families.{index_length}
use Rattle.slots.specs.Sound.{sound_index}
use Rattle.store.specs.Store.{places_in}
use Rattle.table.specs.Memory.{bodies_length, sound_table}
use Rattle.journal.specs.View.{well_formed}
use Rattle.model.specs.Wellformed.{ZerosUnformed}
use Rattle.wire.proofs.Tests.{both_false}

abbrev zeros : ℕ → List ℕ
zeros n = replicate n 0

no_place_lem : (a : ℕ) → places_of (zeros a) ≡ 0
unfolding places_of
no_place_lem zero = refl
no_place_lem (suc a) = refl

-- a test that comes to nothing whatever it finds
none_picked : (t : Bool) → pick t false false ≡ false
none_picked true = refl
none_picked false = refl

not_valid : (a : ℕ) → valid (zeros a) ≡ false
unfolding valid
not_valid a = rw (no_place_lem a) (both_false (leb holders_length (length (zeros a))))

not_sound : (a : ℕ) → sound_index (zeros a) ≡ false
unfolding sound_index
not_sound a = rw (not_valid a) (none_picked (ltb (length (zeros a)) index_length))

no_table : (a : ℕ) (b : List ℕ) (lent : ℕ) → sound_table (zeros a) b lent ≡ false
unfolding sound_table
no_table a b lent = rw (not_sound a) (none_picked (ltb (length b) bodies_length))

pub zeros_unformed : ZerosUnformed
unfolding ZerosUnformed well_formed
zeros_unformed a b p j = rw (no_table a b (places_in p))
