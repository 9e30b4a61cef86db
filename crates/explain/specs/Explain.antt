-- What is explained of an order on a state memory: the number that delivery gives, and the byte offset of the field at fault. Assumes
-- nothing.
use Rattle.std.specs.Prelude.{ℕ, List, [], ◌∷◌, eqb, length}
use Rattle.wire.specs.Tests.{pick, either, any}
use Rattle.wire.specs.Numbers.{num_at}
use Rattle.journal.specs.View.{Memory, view_of}
use Rattle.session.specs.Calls.{deliver, answer_view}
use Rattle.explain.specs.declared.Explanation.{Explanation}
use Rattle.explain.specs.Fields.{fields_of, first_cut, first_outside}

-- document 02's list
unfoldable pub offset_of : ℕ → List ℕ → ℕ
offset_of number s =
    -- none, and 0 for 1 and 2
    pick (any (eqb number 0 ∷ eqb number 1 ∷ eqb number 2 ∷ [])) 0
    (pick (eqb number 3) 1
    -- 0 if the first byte is wrong, else 3
    (pick (eqb number 4) (pick (eqb (num_at 1 s 0) 0x2E) 3 0)
    (pick (either (eqb number 5) (eqb number 6)) 3
    -- the first field that does not fit whole, or the first byte left over
    (pick (eqb number 7) (first_cut (length s) 7 (fields_of s))
    -- the first field in carried order outside its set
    (pick (eqb number 8) (first_outside 7 (fields_of s))
    7)))))

abbrev pub explained : ℕ → List ℕ → Explanation
explained number s = record { number = number; at = offset_of number s }

unfoldable pub explain : List ℕ → Memory → Explanation
explain s m = explained (answer_view (deliver s) (view_of m)).number s
