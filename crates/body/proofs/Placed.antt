-- What holds of every row of the table, for a field in its place, and a field that is decided by its place. Assumes nothing.
use mathlib.Core.Path.{◌≡◌, refl, sym, ap, ◌∙◌}
use mathlib.Core.Bool.{Bool, true}
use mathlib.Core.List.{List, [], ◌∷◌}
use Prim.Native.Nat.{ℕ, zero, suc, ◌+◌, ◌-◌, ◌≤◌}
use native.Mathlib.Nat.{add-zero}
use native.Mathlib.Omega.{arith}
use lib.Dec.{leb}
use lib.ListN.{length, get_or, take, drop}
use lib.Seq.{drop-drop}
use borrow.Author.Tests.{leb-true}
use Rattle.wire.specs.Tests.{both}
use Rattle.wire.specs.Numbers.{num_at}
use Rattle.wire.specs.Parts.{slice}
use Rattle.wire.proofs.Tests.{both_left, both_right, every}
use Rattle.wire.proofs.Numbers.{num_slice, num_cong}
use Rattle.rows.specs.declared.Row.{Row}
use Rattle.rows.specs.Rows.{all_rows, no_row, rows_from, room_of, first_of, len_of, ok_of, number_ok}
use Rattle.rows.proofs.RowsCarried.{row_room}
use Rattle.body.specs.Bodies.{fields_of, fields_ok}

-- ---- rows

-- the first number stands within the fixed bytes, a field in its set has room, and 0 is in the set
pub record Placed (r : Row) : Type 0 where
  pub head : r.head ≤ r.size
  pub room : (s : List ℕ) (at : ℕ) → ok_of r s at ≡ true → len_of r s at ≤ room_of r
  pub zeros : number_ok r.rule r.most 0 ≡ true

abbrev pub All : (Row → Type 0) → List Row → Type 0
All P [] = Unit {0}
All P (r ∷ rs) = P r × All P rs

all_take : (P : Row → Type 0) (n : ℕ) (rs : List Row) → All P rs → All P (take n rs)
all_take P zero rs a = tt
all_take P (suc n) [] a = tt
all_take P (suc n) (r ∷ rs) a = (a.0, all_take P n rs a.1)

all_drop : (P : Row → Type 0) (n : ℕ) (rs : List Row) → All P rs → All P (drop n rs)
all_drop P zero rs a = a
all_drop P (suc n) [] a = tt
all_drop P (suc n) (r ∷ rs) a = all_drop P n rs a.1

placed_test : Row → Bool
placed_test r = both (leb r.head r.size) (number_ok r.rule r.most 0)

all_placed : (rs : List Row) → every placed_test rs ≡ true
    → ((k : ℕ) (s : List ℕ) (at : ℕ) → ok_of (get_or rs k no_row) s at ≡ true → len_of (get_or rs k no_row) s at ≤ room_of (get_or rs k no_row)) → All Placed rs
unfolding placed_test
all_placed [] t h = tt
all_placed (r ∷ rs) t h =
    let a = both_left (placed_test r) (every placed_test rs) t in (
      record {
        head = leb-true r.head r.size (both_left (leb r.head r.size) (number_ok r.rule r.most 0) a);
        room = h 0;
        zeros = both_right (leb r.head r.size) (number_ok r.rule r.most 0) a;
      },
      all_placed rs (both_right (placed_test r) (every placed_test rs) t) (λ k. h (suc k)),
    )

pub placed : (low high : ℕ) → All Placed (rows_from low high)
unfolding placed_test
placed low high = all_take Placed (high - low) (drop low all_rows) (all_drop Placed low all_rows (all_placed all_rows refl row_room))

-- ---- a field is decided by the bytes of its place

module _ (r : Row) (x y : List ℕ) (a b n : ℕ) (fits : r.head ≤ n) (same : slice x a n ≡ slice y b n) where
  pub first_cong : first_of r x a ≡ first_of r y b
  unfolding first_of
  first_cong =
      ap (num_at r.head x) (sym (add-zero a))
      ∙ num_cong r.head x y a b n 0 (omega arith) same
      ∙ ap (num_at r.head y) (add-zero b)

  pub len_cong : len_of r x a ≡ len_of r y b
  unfolding len_of
  len_cong = rw first_cong

  pub ok_cong : ok_of r x a ≡ ok_of r y b
  unfolding ok_of
  ok_cong = rw first_cong

-- its length there is its length in the slot
pub len_place : (r : Row) (slot : List ℕ) (off n : ℕ) → r.head ≤ n → len_of r (slice slot off n) 0 ≡ len_of r slot off
unfolding len_of first_of
len_place r slot off n h =
    let e : num_at r.head (slice slot off n) 0 ≡ num_at r.head slot off = num_slice r.head slot off n 0 (omega arith) ∙ ap (num_at r.head slot) (add-zero off) in
    rw e

drop_slice : (x y : List ℕ) (off n : ℕ) → drop off x ≡ drop off y → slice x off n ≡ slice y off n
unfolding slice
drop_slice x y off n e = ap (take n) e

pub drop_more : (x y : List ℕ) (i n : ℕ) → drop i x ≡ drop i y → drop (i + n) x ≡ drop (i + n) y
drop_more x y i n e = sym (drop-drop n i x) ∙ ap (drop n) e ∙ drop-drop n i y

-- the fields from off on are decided by the bytes from off on
pub fields_cong : (rows : List Row) (off : ℕ) (x y : List ℕ) → drop off x ≡ drop off y → fields_of rows off x ≡ fields_of rows off y
unfolding fields_of
fields_cong [] off x y e = refl
fields_cong (r ∷ rs) off x y e =
    rw (drop_slice x y off (room_of r) e, fields_cong rs (off + room_of r) x y (drop_more x y off (room_of r) e))

pub fields_ok_cong : (rows : List Row) (off : ℕ) (x y : List ℕ) → drop off x ≡ drop off y → fields_ok rows off x ≡ fields_ok rows off y
unfolding fields_ok
fields_ok_cong [] off x y e = refl
fields_ok_cong (r ∷ rs) off x y e =
    let h : r.head ≤ r.head = omega arith in
    rw (ok_cong r x y off off r.head h (drop_slice x y off r.head e), fields_ok_cong rs (off + room_of r) x y (drop_more x y off (room_of r) e))

pub length_fields : (rows : List Row) (off : ℕ) (slot : List ℕ) → length (fields_of rows off slot) ≡ length rows
unfolding fields_of
length_fields [] off slot = refl
length_fields (r ∷ rs) off slot = ap suc (length_fields rs (off + room_of r) slot)
