-- The index that a memory describes. Assumes nothing.
use Rattle.std.specs.Prelude.{true, false, List, ℕ}
use Rattle.places.specs.Counts.{on_found}
use Rattle.places.specs.Memory.{decode}
use Rattle.places.specs.Keyed.{keyed}
use Rattle.places.specs.Holder.{number_of}
use Rattle.slots.specs.Slots.{slot_of, many_in}
use Rattle.index.specs.Index.{Index}

unfoldable pub index_of : List ℕ → Index
index_of x =
    record {
      listed = λ f a b. on_found (slot_of x f a b) false (λ i. true);
      many = λ f. many_in x f;
      sharing = keyed (number_of (slot_of x)) (decode x);
    }
