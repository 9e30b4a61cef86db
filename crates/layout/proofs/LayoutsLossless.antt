-- The layouts lose nothing: a record reads as the body that it was made of, and a picture begins its layout. Assumes nothing.
use mathlib.Core.Path.{◌≡◌, refl, sym, ap, ◌∙◌}
use mathlib.Core.Bool.{Bool, true, false}
use mathlib.Core.List.{List, [], ◌∷◌, ◌++◌, append_assoc, append-nil}
use Prim.Native.Nat.{ℕ, ◌+◌, ◌-◌, ◌≤◌}
use native.Mathlib.Omega.{arith}
use lib.Dec.{leb}
use lib.ListN.{length, take, length-append, length-take}
use borrow.Author.Tests.{leb-true}
use Rattle.wire.specs.Tests.{both}
use Rattle.wire.specs.Numbers.{num_at}
use Rattle.wire.specs.Parts.{slice, padded}
use Rattle.wire.proofs.Tests.{both_right}
use Rattle.wire.proofs.Parts.{length_slice, slice_mid, length_padded, take_padded}
use Rattle.wire.proofs.Numbers.{num1_is, num_cong, num_padded}
use Rattle.rows.specs.declared.Row.{Row}
use Rattle.rows.specs.Rows.{rows_from, room_of, first_of, len_of}
use Rattle.order.specs.Icons.{tabled, parts_of, bits_ok, side_ok}
use Rattle.order.proofs.Pictures.{laid}
use Rattle.body.specs.Bodies.{Body, field_in, fields_of, body_of}
use Rattle.body.specs.Stores.{room_all}
use Rattle.body.proofs.Placed.{Placed, All, placed}
use Rattle.cache.specs.Cells.{picture_of, cell_ok}
use Rattle.layout.specs.Valid.{ValidField, ValidFields, ValidBody}
use Rattle.layout.specs.Layouts.{picture_size, fields_bytes, record_bytes, picture_bytes, SizesHold, KeepsRecord, KeepsPicture}
use Rattle.layout.proofs.LayoutsWritten.{length_record}

-- ---- the bytes of each kind

pub sizes_hold : SizesHold
unfolding room_all
sizes_hold = record { window = refl; newer = refl; notification = refl; desktop = refl }

-- ---- records

-- a field reads back from its place
module _ (r : Row) (f : List ℕ) (p : Placed r) (v : ValidField r f) where
  abbrev place : List ℕ
  place = padded 0 (room_of r) f

  pub short_field : length f ≤ room_of r
  short_field = let n = p.room f 0 v.set in omega (arith, v.long)

  same_length : len_of r place 0 ≡ len_of r f 0
  unfolding len_of first_of
  same_length =
      let h : 0 + r.head ≤ room_of r = omega (arith, p.head) in
      rw (num_padded r.head (room_of r) 0 f h)

  pub field_back : field_in r place ≡ f
  unfolding field_in
  field_back = ap (λ (n : ℕ). take n place) (same_length ∙ sym v.long) ∙ take_padded {A = ℕ} 0 (room_of r) f short_field

pub fields_back : (rows : List Row) (fs : List (List ℕ)) (at : ℕ) (h more : List ℕ) → All Placed rows → ValidFields rows fs → length h ≡ at
    → fields_of rows at (h ++ (fields_bytes rows fs ++ more)) ≡ fs
unfolding fields_of fields_bytes
fields_back [] [] at h more a v e = refl
fields_back [] (f ∷ fs) at h more a v e = absurd v
fields_back (r ∷ rs) [] at h more a v e = absurd v
fields_back (r ∷ rs) (f ∷ fs) at h more a v e =
    let w = padded 0 (room_of r) f in
    let tail = fields_bytes rs fs ++ more in
    let lw : length w ≡ room_of r = length_padded {A = ℕ} 0 (room_of r) f in
    let l : length (h ++ w) ≡ at + room_of r = length-append h w ∙ omega arith in
    let parted : h ++ ((w ++ fields_bytes rs fs) ++ more) ≡ h ++ (w ++ tail) = ap (λ (x : List ℕ). h ++ x) (append_assoc w (fields_bytes rs fs) more) in
    let here : field_in r (slice (h ++ (w ++ tail)) at (room_of r)) ≡ f =
    ap (field_in r) (slice_mid h w tail at (room_of r) e lw) ∙ field_back r f a.0 v.0 in
    let then : fields_of rs (at + room_of r) (h ++ (w ++ tail)) ≡ fs =
    ap (fields_of rs (at + room_of r)) (sym (append_assoc h w tail)) ∙ fields_back rs fs (at + room_of r) (h ++ w) more a.1 v.1 l in
    rw (parted, here, then)

record_back : (rows : List Row) (m n : ℕ) (b : Body) (more : List ℕ) → All Placed rows → ValidBody rows m n b → body_of rows (record_bytes rows b ++ more) ≡ b
unfolding record_bytes body_of
record_back rows m n b more a v =
    let x = b.first ∷ b.second ∷ (fields_bytes rows b.fields ++ more) in
    rw (sym (num1_is x 0), sym (num1_is x 1), fields_back rows b.fields 2 (b.first ∷ b.second ∷ []) more a v.fields refl)

-- of rows that have room for their fields
pub keeps_rows : (rows : List Row) (m n : ℕ) (b : Body) → All Placed rows → ValidBody rows m n b → KeepsRecord rows b
keeps_rows rows m n b a v =
    record {
      long = length_record rows b;
      back = ap (body_of rows) (sym (append-nil (record_bytes rows b))) ∙ record_back rows m n b [] a v;
      before = λ more. record_back rows m n b more a v;
    }

pub keeps_record : (low high m n : ℕ) (b : Body) → ValidBody (rows_from low high) m n b → KeepsRecord (rows_from low high) b
keeps_record low high m n b v = keeps_rows (rows_from low high) m n b (placed low high) v

-- ---- pictures

-- the picture in a cell that holds an icon ends within it
pub record InCell (end : ℕ) : Type 0 where
  pub low : 12 ≤ end
  pub high : end ≤ 4238

-- mask, color table and color together
pub content_few : (cell : List ℕ) → cell_ok cell ≡ true → (parts_of cell 0).end - (parts_of cell 0).mask ≤ 4224
unfolding cell_ok
content_few cell ok =
    let n = (parts_of cell 0).end - (parts_of cell 0).mask in
    leb-true n 4224 (both_right (both (both (bits_ok (num_at 1 cell 3)) (side_ok (num_at 2 cell 4))) (side_ok (num_at 2 cell 6))) (leb n 4224) ok)

pub in_cell : (cell : List ℕ) → cell_ok cell ≡ true → InCell (parts_of cell 0).end
in_cell cell ok =
    let l = content_few cell ok in
    let a = laid cell 0 in
    record { low = omega arith; high = omega arith }

short_picture : (cell : List ℕ) → cell_ok cell ≡ true → length (picture_of cell) ≤ picture_size
unfolding picture_of slice
short_picture cell ok = let i = in_cell cell ok in simp length-take (omega arith)

module _ (cell : List ℕ) (ok : cell_ok cell ≡ true) (long : 4240 ≤ length cell) where
  length_is : length (picture_of cell) ≡ (parts_of cell 0).end - 3
  unfolding picture_of
  length_is = let i = in_cell cell ok in length_slice cell 3 ((parts_of cell 0).end - 3) (omega arith)

  picture_begins : take (length (picture_of cell)) (picture_bytes (picture_of cell)) ≡ picture_of cell
  unfolding picture_bytes
  picture_begins = take_padded {A = ℕ} 0 picture_size (picture_of cell) (short_picture cell ok)

  -- the layout as a cell has it, after entry and cache id
  abbrev copy : List ℕ
  copy = 0 ∷ 0 ∷ 0 ∷ picture_bytes (picture_of cell)

  same_bytes : slice copy 3 ((parts_of cell 0).end - 3) ≡ slice cell 3 ((parts_of cell 0).end - 3)
  same_bytes = ap (slice copy 3) (sym length_is) ∙ begins-it ∙ is-it
    where
      begins-it : slice copy 3 (length (picture_of cell)) ≡ picture_of cell
      begins-it = unfold slice in picture_begins

      is-it : picture_of cell ≡ slice cell 3 ((parts_of cell 0).end - 3)
      is-it = unfold picture_of in refl

  same_number : (w i : ℕ) → i + w ≤ (parts_of cell 0).end - 3 → num_at w copy (3 + i) ≡ num_at w cell (3 + i)
  same_number w i h = num_cong w copy cell 3 3 ((parts_of cell 0).end - 3) i h same_bytes

  same_end : (parts_of copy 0).end ≡ (parts_of cell 0).end
  unfolding parts_of
  same_end = go (tabled (num_at 1 cell 3)) refl
    where
      low : 12 ≤ (parts_of cell 0).end
      low = (in_cell cell ok).low

      e3 : num_at 1 copy 3 ≡ num_at 1 cell 3
      e3 = same_number 1 0 (omega (arith, low))

      e8 : num_at 2 copy 8 ≡ num_at 2 cell 8
      e8 = same_number 2 5 (omega (arith, low))

      e10 : num_at 2 copy 10 ≡ num_at 2 cell 10
      e10 = same_number 2 7 (omega (arith, low))

      go : (b : Bool) → tabled (num_at 1 cell 3) ≡ b → (parts_of copy 0).end ≡ (parts_of cell 0).end
      go true t =
          let h : 14 ≤ (parts_of cell 0).end = rw t (omega arith) in
          let e12 : num_at 2 copy 12 ≡ num_at 2 cell 12 = same_number 2 9 (omega arith) in
          rw (e3, t, e8, e10, e12)
      go false t = rw (e3, t, e8, e10)

  picture_read : picture_of copy ≡ picture_of cell
  unfolding picture_of
  picture_read = ap (λ (n : ℕ). slice copy 3 (n - 3)) same_end ∙ same_bytes

  -- of a cell that holds an icon
  pub keeps_picture : KeepsPicture cell
  unfolding picture_bytes
  keeps_picture = record { long = length_padded {A = ℕ} 0 picture_size (picture_of cell); back = picture_begins; read = picture_read }
