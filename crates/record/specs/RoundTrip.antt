-- One list has one record: what is written reads back, and what is read is written back. Assumes nothing.
use Rattle.std.specs.Prelude.{ℕ, ◌≤◌, ◌≡◌, List, [], length, get_or, MatchOption}
use Rattle.wire.specs.Parts.{slice}
use Rattle.wire.proofs.Numbers.{Bytes}
use Rattle.record.specs.Layout.{Limits, record_of}
use Rattle.record.specs.Reading.{record_number, bodies_of, place_of}

-- the record of orders within the limits is granted, and hands those orders out
pub record ReadsBack (os : List (List ℕ)) : Type 0 where
  pub number : record_number (record_of os) ≡ 0
  pub bodies : bodies_of (record_of os) ≡ os

-- a record that is granted is the record of the orders that it hands out, which are within the limits
pub record WritesBack (r : List ℕ) : Type 0 where
  pub limits : Limits (bodies_of r)
  pub «record» : record_of (bodies_of r) ≡ r

-- both, and so two granted records that hand out the same orders are the same record
pub record OneRecord : Type 0 where
  pub written : (os : List (List ℕ)) → Limits os → ReadsBack os
  pub read : (r : List ℕ) → Bytes r → record_number r ≡ 0 → WritesBack r
  pub one : (r r' : List ℕ) → Bytes r → Bytes r' → record_number r ≡ 0 → record_number r' ≡ 0 → bodies_of r ≡ bodies_of r' → r ≡ r'

-- where a body is said to lie is that body, and nothing is said of one that there is none of
unfoldable pub PlacesBodies : Type 0
PlacesBodies = (r : List ℕ) (i : ℕ) → MatchOption (place_of r i) (length (bodies_of r) ≤ i) (λ e. slice r e.offset e.size ≡ get_or (bodies_of r) i [])
