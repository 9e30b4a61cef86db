-- A state in one file: too short where its parts are not whole, else the parts that the code lends. Assumes nothing.
use mathlib.Core.Path.{◌≡◌, refl}
use mathlib.Core.Bool.{Bool, true, false}
use mathlib.Core.List.{List, [], ◌∷◌}
use Prim.Native.Nat.{ℕ, ◌-◌, ◌/◌, ◌<◌}
use native.Mathlib.Omega.{arith}
use lib.Dec.{ltb}
use lib.ListN.{length, drop, length-take, length-drop}
use borrow.Author.Tests.{lt-ltb}
use Rattle.wire.specs.Tests.{either}
use Rattle.wire.specs.Parts.{slice}
use Rattle.places.specs.Sizes.{fewest_places}
use Rattle.figure.specs.Kept.{kept_length}
use Rattle.table.specs.Memory.{bodies_length}
use Rattle.journal.specs.Limits.{journal_length}
use Rattle.journal.specs.View.{too_short, meets_rule}
use Rattle.store.specs.Store.{place_length, places_in}
use Rattle.explain.specs.OneFile.{bodies_at, journal_at, places_at, memory_in}

either_last : (a b c : Bool) → either (either (either a b) c) true ≡ true
either_last true b c = refl
either_last false true c = refl
either_last false false true = refl
either_last false false false = refl

module _ (f : List ℕ) where
  journal_cut : length f < places_at → length (slice f journal_at journal_length) < journal_length
  unfolding slice
  journal_cut h = simp (length-take, length-drop) (omega arith)

  short_is : length f < places_at → too_short (memory_in f) ≡ true
  short_is h =
      rw (lt-ltb (length (slice f journal_at journal_length)) journal_length (journal_cut h))
      (either_last (ltb (length (slice f 0 bodies_at)) kept_length) (ltb (length (slice f bodies_at bodies_length)) bodies_length) (ltb (places_in (drop places_at f ∷ [])) fewest_places))

  -- 1
  pub file_short : length f < places_at → meets_rule (memory_in f) ≡ false
  file_short h = rw (short_is h)

  -- the places of the rest
  pub file_lends : places_in (drop places_at f ∷ []) ≡ (length f - places_at) / place_length
  unfolding places_in
  file_lends = rw (length-drop places_at f) (omega arith)
