-- What a slot holds after the flagged fields of an order were stored: the same fields with the flagged ones set to what the
-- order carries. Assumes nothing.
use mathlib.Core.Path.{◌≡◌, refl, sym, ap, subst, ◌∙◌}
use mathlib.Core.Bool.{Bool, true, false}
use mathlib.Core.List.{List, [], ◌∷◌}
use Prim.Native.Nat.{ℕ, ◌+◌, ◌-◌, ◌≤◌}
use native.Mathlib.Nat.{sub_self}
use native.Mathlib.Omega.{arith}
use lib.ListN.{length, take, drop}
use lib.Seq.{take-take}
use Rattle.wire.specs.Tests.{both, has_all}
use Rattle.wire.specs.Parts.{slice, splice}
use Rattle.wire.proofs.Tests.{both_left, both_right}
use Rattle.wire.proofs.Parts.{length_slice, slice_cong, length_splice, slice_splice, take_splice, drop_splice, splice_nil}
use Rattle.rows.specs.declared.Row.{Row}
use Rattle.rows.specs.declared.Fit.TheVariants.{Ends}
use Rattle.rows.specs.Rows.{room_of, len_of, ok_of, walk_of}
use Rattle.rows.proofs.RowsCarried.{Stepped, stepped, carried, not_carried}
use Rattle.body.specs.Bodies.{field_in, fields_of, fields_ok, set_flagged}
use Rattle.body.specs.Stores.{store_of, room_all, EndsWell}
use Rattle.body.proofs.Placed.{Placed, All, len_cong, ok_cong, len_place, drop_more, fields_cong, fields_ok_cong}

-- new is the slot with the flagged fields stored, the first row's place at off
pub record Stored (rows : List Row) (off flags : ℕ) (s : List ℕ) (at : ℕ) (slot new : List ℕ) : Type 0 where
  pub fields : fields_of rows off new ≡ set_flagged rows flags s at (fields_of rows off slot)
  pub before : take off new ≡ take off slot
  pub after : drop (off + room_all rows) new ≡ drop (off + room_all rows) slot
  pub same : length new ≡ length slot
  pub ok : fields_ok rows off slot ≡ true → fields_ok rows off new ≡ true

-- ---- one field

-- d is the slot with the field of row r, in its place at off, set to v
record Moved (r : Row) (off : ℕ) (slot d v : List ℕ) : Type 0 where
  here : field_in r (slice d off (room_of r)) ≡ v
  before : take off d ≡ take off slot
  after : drop (off + room_of r) d ≡ drop (off + room_of r) slot
  same : length d ≡ length slot
  ok : ok_of r slot off ≡ true → ok_of r d off ≡ true

head_len : (r : Row) (s : List ℕ) (at : ℕ) → r.head ≤ r.size → r.head ≤ len_of r s at
unfolding len_of
head_len r s at h = omega arith

shorter : (d : List ℕ) (off n m : ℕ) → n ≤ m → take n (slice d off m) ≡ slice d off n
unfolding slice
shorter d off n m h = take-take n m (drop off d) h

moved_carried : (r : Row) (s : List ℕ) (at off : ℕ) (slot : List ℕ) → Placed r → ok_of r s at ≡ true → at + len_of r s at ≤ length s
    → off + room_of r ≤ length slot → Moved r off slot (splice slot off (slice s at (len_of r s at))) (slice s at (len_of r s at))
unfolding field_in
moved_carried r s at off slot p o inside fits =
    let n = len_of r s at in
    let b = slice s at n in
    let d = splice slot off b in
    let room : n ≤ room_of r = p.room s at o in
    let long : r.head ≤ n = head_len r s at p.head in
    let lb : length b ≡ n = length_slice s at n inside in
    let f : off + length b ≤ length slot = omega arith in
    let back : slice d off n ≡ b = ap (slice d off) (sym lb) ∙ slice_splice slot off b f in
    let len : len_of r (slice d off (room_of r)) 0 ≡ n = len_place r d off (room_of r) (omega arith) ∙ len_cong r d s off at n long back in
    record {
      here = ap (λ (k : ℕ). take k (slice d off (room_of r))) len ∙ shorter d off n (room_of r) room ∙ back;
      before = take_splice slot off b f off (omega arith);
      after = drop_splice slot off b f (off + room_of r) (omega arith);
      same = length_splice slot off b f;
      ok = λ h. ok_cong r d s off at n long back ∙ o;
    }

moved_none : (r : Row) (s : List ℕ) (at off : ℕ) (slot : List ℕ) → Moved r off slot (splice slot off (slice s at (at - at))) (field_in r (slice slot off (room_of r)))
unfolding slice
moved_none r s at off slot =
    rw (sub_self at, splice_nil slot off) (record { here = refl; before = refl; after = refl; same = refl; ok = λ h. h })

-- ---- the rows after it

pub both_true : {a b : Bool} → a ≡ true → b ≡ true → both a b ≡ true
both_true e f = rw (e, f)

module _ (r : Row) (rs : List Row) (off flags : ℕ) (s : List ℕ) (at : ℕ) (slot : List ℕ) (p : Placed r) where
  joined : (q : ℕ) (d v x : List ℕ) → Moved r off slot d v → Stored rs (off + room_of r) flags s q d x
      → set_flagged (r ∷ rs) flags s at (fields_of (r ∷ rs) off slot) ≡ v ∷ set_flagged rs flags s q (fields_of rs (off + room_of r) slot)
      → Stored (r ∷ rs) off flags s at slot x
  unfolding fields_of fields_ok room_all
  joined q d v x m t f =
      let place : slice x off (room_of r) ≡ slice d off (room_of r) = slice_cong x d off (room_of r) (off + room_of r) (omega arith) t.before in
      let h : r.head ≤ room_of r = omega (arith, p.head) in
      let g : off + room_of r + room_all rs ≡ off + (room_of r + room_all rs) = omega arith in
      record {
        fields =
            ap (λ (w : List ℕ). field_in r w ∷ fields_of rs (off + room_of r) x) place
            ∙ ap (λ (w : List ℕ). w ∷ fields_of rs (off + room_of r) x) m.here
            ∙ ap (λ (l : List (List ℕ)). v ∷ l) (t.fields ∙ ap (set_flagged rs flags s q) (fields_cong rs (off + room_of r) d slot m.after))
            ∙ sym f;
        before =
            sym (take-take off (off + room_of r) x (omega arith))
            ∙ ap (take off) t.before
            ∙ take-take off (off + room_of r) d (omega arith)
            ∙ m.before;
        after = rw g at (t.after ∙ drop_more d slot (off + room_of r) (room_all rs) m.after);
        same = t.same ∙ m.same;
        ok = λ k.
            both_true
            (ok_cong r x d off off (room_of r) h place ∙ m.ok (both_left (ok_of r slot off) (fields_ok rs (off + room_of r) slot) k))
            (t.ok (fields_ok_cong rs (off + room_of r) d slot m.after ∙ both_right (ok_of r slot off) (fields_ok rs (off + room_of r) slot) k));
      }

  module _ (q : ℕ) (low : 1 ≤ at) (inside : at ≤ length s) (fits : off + room_of r ≤ length slot) (w : Stepped r rs flags s at q)
      (ih : (i : ℕ) (d : List ℕ) → 1 ≤ i → i ≤ length s → length d ≡ length slot → walk_of rs flags s i 0 ≡ Ends q 0
      → Stored rs (off + room_of r) flags s i d (store_of rs (off + room_of r) flags s i d)) where
    opened : store_of (r ∷ rs) off flags s at slot ≡ store_of rs (off + room_of r) flags s w.next (splice slot off (slice s at (w.next - at)))
    unfolding store_of
    opened = rw w.here

    stored-carried : has_all flags r.flag ≡ true → Stored (r ∷ rs) off flags s at slot (store_of (r ∷ rs) off flags s at slot)
    unfolding set_flagged fields_of
    stored-carried t =
        let n = len_of r s at in
        let c = carried r flags s at w.next low inside t w.here in
        let e : w.next ≡ at + n = c.ends in
        let k : w.next - at ≡ n = omega arith in
        let d = splice slot off (slice s at n) in
        let m : Moved r off slot d (slice s at n) = moved_carried r s at off slot p c.ok (omega (arith, c.within)) fits in
        let g : store_of (r ∷ rs) off flags s at slot ≡ store_of rs (off + room_of r) flags s (at + n) d =
        opened ∙ ap (λ (j : ℕ). store_of rs (off + room_of r) flags s w.next (splice slot off (slice s at j))) k
        ∙ ap (λ (j : ℕ). store_of rs (off + room_of r) flags s j d) e in
        subst (λ (x : List ℕ). Stored (r ∷ rs) off flags s at slot x) (sym g)
        (joined (at + n) d (slice s at n) (store_of rs (off + room_of r) flags s (at + n) d) m
        (ih (at + n) d (omega arith) (omega (arith, c.within)) m.same (ap (λ (j : ℕ). walk_of rs flags s j 0) (sym e) ∙ w.then))
        (rw t))

    stored_other : has_all flags r.flag ≡ false → Stored (r ∷ rs) off flags s at slot (store_of (r ∷ rs) off flags s at slot)
    unfolding set_flagged fields_of
    stored_other t =
        let e : w.next ≡ at = not_carried r flags s at w.next t w.here in
        let d = splice slot off (slice s at (at - at)) in
        let m : Moved r off slot d (field_in r (slice slot off (room_of r))) = moved_none r s at off slot in
        let g : store_of (r ∷ rs) off flags s at slot ≡ store_of rs (off + room_of r) flags s at d =
        opened ∙ ap (λ (j : ℕ). store_of rs (off + room_of r) flags s j (splice slot off (slice s at (j - at)))) e in
        subst (λ (x : List ℕ). Stored (r ∷ rs) off flags s at slot x) (sym g)
        (joined at d (field_in r (slice slot off (room_of r))) (store_of rs (off + room_of r) flags s at d) m
        (ih at d low inside m.same (ap (λ (j : ℕ). walk_of rs flags s j 0) (sym e) ∙ w.then))
        (rw t))

    stored_row : Stored (r ∷ rs) off flags s at slot (store_of (r ∷ rs) off flags s at slot)
    stored_row = go (has_all flags r.flag) refl
      where
        go : (b : Bool) → has_all flags r.flag ≡ b → Stored (r ∷ rs) off flags s at slot (store_of (r ∷ rs) off flags s at slot)
        go true t = stored-carried t
        go false t = stored_other t

stored_end : (rows : List Row) (off flags : ℕ) (s : List ℕ) (at : ℕ) (slot : List ℕ) (q : ℕ) → All Placed rows → walk_of rows flags s at 0 ≡ Ends q 0
    → 1 ≤ at → at ≤ length s → off + room_all rows ≤ length slot → Stored rows off flags s at slot (store_of rows off flags s at slot)
unfolding store_of fields_of fields_ok set_flagged room_all
stored_end [] off flags s at slot q a w low inside fits = record { fields = refl; before = refl; after = refl; same = refl; ok = λ h. refl }
stored_end (r ∷ rs) off flags s at slot q a w low inside fits =
    stored_row r rs off flags s at slot a.0 q low inside (omega arith) (stepped r rs flags s at q w)
    (λ i d g h l v. stored_end rs (off + room_of r) flags s i d q a.1 v g h (omega arith))

pub stored : (rows : List Row) (off flags : ℕ) (s : List ℕ) (at : ℕ) (slot : List ℕ) → All Placed rows → EndsWell rows flags s at → 1 ≤ at → at ≤ length s
    → off + room_all rows ≤ length slot → Stored rows off flags s at slot (store_of rows off flags s at slot)
stored rows off flags s at slot a e low inside fits = stored_end rows off flags s at slot e.end a e.well low inside fits
