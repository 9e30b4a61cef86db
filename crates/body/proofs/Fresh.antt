-- The slot of a new record: every field zero or empty, no mark. Assumes nothing.
use mathlib.Core.Path.{◌≡◌, refl, sym, ap, ◌∙◌}
use mathlib.Core.Bool.{Bool, true, false}
use mathlib.Core.List.{List, [], ◌∷◌}
use Prim.Native.Nat.{ℕ, zero, suc, ◌+◌, ◌≤◌, ◌<◌}
use native.Mathlib.Nat.{mul-zero, add-zero, zero-add}
use native.Mathlib.Omega.{arith}
use lib.ListN.{length, take, replicate, length-replicate}
use Rattle.wire.specs.Numbers.{num_at}
use Rattle.wire.specs.Parts.{slice, splice}
use Rattle.wire.proofs.Parts.{slice_cong, slice_splice, length_splice}
use Rattle.wire.proofs.Numbers.{num_in, num_zeros}
use Rattle.rows.specs.declared.Row.{Row}
use Rattle.rows.specs.Rows.{room_of, first_of, len_of, ok_of, number_ok}
use Rattle.body.specs.Bodies.{window_fields, notification_fields, desktop_fields, field_in, fields_of, fields_ok, body_of, body_ok, empty_fields, empty_body}
use Rattle.body.specs.Stores.{prepared_of, room_all}
use Rattle.body.proofs.Placed.{Placed, All, ok_cong}
use Rattle.body.proofs.Stored.{both_true}
use Rattle.body.proofs.Marks.{body_is, fine_ok}

-- ---- zeros

abbrev zeros : ℕ → List ℕ
zeros n = replicate n 0

take_zeros : (n m : ℕ) → n ≤ m → take n (zeros m) ≡ zeros n
take_zeros zero m h = refl
take_zeros (suc n) zero h = absurd (omega arith)
take_zeros (suc n) (suc m) h = ap (λ (l : List ℕ). 0 ∷ l) (take_zeros n m (omega arith))

slice_zeros : (a n m : ℕ) → a + n ≤ m → slice (zeros m) a n ≡ zeros n
unfolding slice
slice_zeros zero n m h = take_zeros n m (omega arith)
slice_zeros (suc a) n zero h = absurd (omega arith)
slice_zeros (suc a) n (suc m) h = slice_zeros a n m (omega arith)

-- a field of zeros
zero_len : (r : Row) (n i : ℕ) → len_of r (zeros n) i ≡ r.size
unfolding len_of first_of
zero_len r n i = rw (num_zeros r.head n i, mul-zero r.unit, add-zero r.size)

zero_ok : (r : Row) (n i : ℕ) → number_ok r.rule r.most 0 ≡ true → ok_of r (zeros n) i ≡ true
unfolding ok_of first_of
zero_ok r n i h = rw (num_zeros r.head n i) h

-- ---- a slot that begins with m zeros

module _ (m : ℕ) (x : List ℕ) (z : take m x ≡ zeros m) where
  place_zeros : (off n : ℕ) → off + n ≤ m → slice x off n ≡ slice (zeros m) off n
  place_zeros off n h = slice_cong x (zeros m) off n m h (z ∙ sym (take_zeros m m (omega arith)))

  fields_zeros : (rows : List Row) (off : ℕ) → off + room_all rows ≤ m → fields_of rows off x ≡ empty_fields rows
  unfolding fields_of empty_fields field_in room_all
  fields_zeros [] off h = refl
  fields_zeros (r ∷ rs) off h =
      let p : slice x off (room_of r) ≡ zeros (room_of r) = place_zeros off (room_of r) (omega arith) ∙ slice_zeros off (room_of r) m (omega arith) in
      rw (p, zero_len r (room_of r) 0, take_zeros r.size (room_of r) (omega arith), fields_zeros rs (off + room_of r) (omega arith))

  fields_ok_zeros : (rows : List Row) (off : ℕ) → All Placed rows → off + room_all rows ≤ m → fields_ok rows off x ≡ true
  unfolding fields_ok room_all
  fields_ok_zeros [] off a h = refl
  fields_ok_zeros (r ∷ rs) off a h =
      let fits : r.head ≤ room_of r = omega (arith, a.0.head) in
      both_true
      (ok_cong r x (zeros m) off off (room_of r) fits (place_zeros off (room_of r) (omega arith)) ∙ zero_ok r m off a.0.zeros)
      (fields_ok_zeros rs (off + room_of r) a.1 (omega arith))

-- ---- the prepared slot

cleared : (m : ℕ) (slot : List ℕ) → m ≤ length slot → take m (splice slot 0 (zeros m)) ≡ zeros m
unfolding slice
cleared m slot h =
    let l : length (zeros m) ≡ m = length-replicate m 0 in
    ap (λ (k : ℕ). take k (splice slot 0 (zeros m))) (sym l) ∙ slice_splice slot 0 (zeros m) (omega arith)

mark_zero : (m : ℕ) (slot : List ℕ) (i : ℕ) → m ≤ length slot → i < m → num_at 1 (splice slot 0 (zeros m)) i ≡ 0
mark_zero m slot i h l =
    let k : length (zeros m) ≡ m = length-replicate m 0 in
    rw (zero-add i) at (num_in 1 slot 0 (zeros m) (omega arith) i (omega arith)) ∙ num_zeros 1 m i

module _ (rows : List Row) (slot : List ℕ) (room : 2 + room_all rows ≤ length slot) where
  all : length slot ≤ length slot
  all = omega arith

  pub prepared_body : body_of rows (prepared_of true slot) ≡ empty_body rows
  unfolding prepared_of empty_body
  prepared_body =
      body_is rows (splice slot 0 (zeros (length slot))) (mark_zero (length slot) slot 0 all (omega (arith, room))) (mark_zero (length slot) slot 1 all (omega (arith, room)))
      (fields_zeros (length slot) (splice slot 0 (zeros (length slot))) (cleared (length slot) slot all) rows 2 room)

  pub prepared_ok : (m n : ℕ) → All Placed rows → body_ok rows m n (prepared_of true slot) ≡ true
  unfolding prepared_of
  prepared_ok m n a =
      fine_ok rows m n (splice slot 0 (zeros (length slot)))
      (record {
        first = omega (arith, mark_zero (length slot) slot 0 all (omega (arith, room)));
        second = omega (arith, mark_zero (length slot) slot 1 all (omega (arith, room)));
        fields = fields_ok_zeros (length slot) (splice slot 0 (zeros (length slot))) (cleared (length slot) slot all) rows 2 a room;
      })

pub length_prepared : (fresh : Bool) (slot : List ℕ) → length (prepared_of fresh slot) ≡ length slot
unfolding prepared_of
length_prepared true slot = length_splice slot 0 (zeros (length slot)) (omega (arith, length-replicate {A = ℕ} (length slot) 0))
length_prepared false slot = refl

-- ---- the three kinds have room in a slot

pub window_room : room_all window_fields ≡ 1390
unfolding room_all
window_room = refl

pub notification_room : room_all notification_fields ≡ 914
unfolding room_all
notification_room = refl

pub desktop_room : room_all desktop_fields ≡ 261
unfolding room_all
desktop_room = refl
