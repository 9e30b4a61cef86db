-- Memory that meets the rule holds valid bodies. Assumes nothing.
use mathlib.Core.Path.{◌≡◌, sym, ap, ◌∙◌}
use mathlib.Core.Bool.{true}
use mathlib.Core.List.{List, [], ◌∷◌}
use Prim.Native.Nat.{ℕ, ◌+◌, ◌≤◌}
use native.Mathlib.Omega.{arith}
use lib.Dec.{leb}
use lib.ListN.{length}
use lib.Seq.{take_all}
use borrow.Author.Tests.{leb-true}
use Rattle.wire.specs.Tests.{both}
use Rattle.wire.specs.Numbers.{num_at}
use Rattle.wire.specs.Parts.{slice}
use Rattle.wire.proofs.Tests.{both_left, both_right}
use Rattle.wire.proofs.Parts.{length_slice}
use Rattle.rows.specs.declared.Row.{Row}
use Rattle.rows.specs.Rows.{rows_from, room_of, len_of, ok_of}
use Rattle.body.specs.Bodies.{fields_of, fields_ok, body_of, body_ok}
use Rattle.body.specs.Stores.{room_all}
use Rattle.body.proofs.Placed.{Placed, All, placed, len_cong, ok_cong}
use Rattle.layout.specs.Valid.{ValidField, ValidFields, ValidBody}
use Rattle.layout.specs.Layouts.{field_at, KeepsRecord}
use Rattle.layout.proofs.LayoutsWritten.{field_is}
use Rattle.layout.proofs.LayoutsLossless.{keeps_record}

module _ (r : Row) (slot : List ℕ) (off : ℕ) (p : Placed r) (ok : ok_of r slot off ≡ true) (inside : off + room_of r ≤ length slot) where
  abbrev n : ℕ
  n = len_of r slot off

  room : n ≤ room_of r
  room = p.room slot off ok

  long : length (field_at r slot off) ≡ n
  long = ap (λ (x : List ℕ). length x) (field_is r slot off p ok) ∙ length_slice slot off n (omega (arith, room))

  same : slice (field_at r slot off) 0 n ≡ slice slot off n
  same = whole ∙ field_is r slot off p ok
    where
      whole : slice (field_at r slot off) 0 n ≡ field_at r slot off
      whole = unfold slice in take_all n (field_at r slot off) (omega (arith, long))

  head : r.head ≤ n
  unfolding len_of
  head = omega (arith, p.head)

  valid_field : ValidField r (field_at r slot off)
  valid_field =
      record {
        long = long ∙ sym (len_cong r (field_at r slot off) slot 0 off n head same);
        set = ok_cong r (field_at r slot off) slot 0 off n head same ∙ ok;
      }

valid_fields : (rows : List Row) (off : ℕ) (slot : List ℕ) → All Placed rows → fields_ok rows off slot ≡ true → off + room_all rows ≤ length slot
    → ValidFields rows (fields_of rows off slot)
unfolding fields_of fields_ok room_all
valid_fields [] off slot a ok inside = tt
valid_fields (r ∷ rs) off slot a ok inside = (
  valid_field r slot off a.0 (both_left (ok_of r slot off) (fields_ok rs (off + room_of r) slot) ok) (omega arith),
  valid_fields rs (off + room_of r) slot a.1 (both_right (ok_of r slot off) (fields_ok rs (off + room_of r) slot) ok) (omega arith),
)

pub valid_body : (low high m n : ℕ) (slot : List ℕ) → 2 + room_all (rows_from low high) ≤ length slot → body_ok (rows_from low high) m n slot ≡ true
    → ValidBody (rows_from low high) m n (body_of (rows_from low high) slot)
unfolding body_ok body_of
valid_body low high m n slot inside ok =
    let rows = rows_from low high in
    let t = both (leb (num_at 1 slot 1) n) (fields_ok rows 2 slot) in
    let u = both_right (leb (num_at 1 slot 0) m) t ok in
    record {
      first = leb-true (num_at 1 slot 0) m (both_left (leb (num_at 1 slot 0) m) t ok);
      second = leb-true (num_at 1 slot 1) n (both_left (leb (num_at 1 slot 1) n) (fields_ok rows 2 slot) u);
      fields = valid_fields rows 2 slot (placed low high) (both_right (leb (num_at 1 slot 1) n) (fields_ok rows 2 slot) u) inside;
    }

-- so its layout reads back
pub keeps_slot : (low high m n : ℕ) (slot : List ℕ) → body_ok (rows_from low high) m n slot ≡ true → 2 + room_all (rows_from low high) ≤ length slot
    → KeepsRecord (rows_from low high) (body_of (rows_from low high) slot)
keeps_slot low high m n slot ok inside = keeps_record low high m n (body_of (rows_from low high) slot) (valid_body low high m n slot inside ok)
