-- A record written in several pieces: fields that are not counted by one copy, each other one by itself. Assumes nothing.
use mathlib.Core.Path.{◌≡◌, refl, sym, ap, ◌∙◌}
use mathlib.Core.Bool.{true}
use mathlib.Core.List.{List, [], ◌∷◌, ◌++◌, append_assoc, append-nil}
use Prim.Native.Nat.{ℕ, ◌+◌, ◌*◌, ◌≤◌}
use native.Mathlib.Nat.{add-zero, zero-mul}
use native.Mathlib.Omega.{arith}
use lib.ListN.{length, get_or, take, drop, replicate}
use lib.Seq.{take-add, take_all, drop-drop}
use Rattle.wire.specs.Numbers.{num_at}
use Rattle.wire.specs.Parts.{slice, splice, padded}
use Rattle.wire.proofs.Tests.{both_left, both_right}
use Rattle.wire.proofs.Parts.{length_slice, splice_after, padded_all}
use Rattle.rows.specs.declared.Row.{Row}
use Rattle.rows.specs.Rows.{all_rows, no_row, rows_from, room_of, first_of, len_of, ok_of}
use Rattle.body.specs.Bodies.{Body, window_fields, field_in, fields_of, fields_ok, body_of}
use Rattle.body.specs.Stores.{room_all}
use Rattle.body.proofs.Placed.{All}
use Rattle.layout.specs.Layouts.{window_size, newer_size, older_fields, newer_fields, older_part, newer_part, field_bytes, fields_bytes, record_bytes}
use Rattle.layout.proofs.LayoutsWritten.{length_fields, length_record, marks_are}

-- ---- rows after rows

room_join : (rs more : List Row) → room_all (rs ++ more) ≡ room_all rs + room_all more
unfolding room_all
room_join [] more = omega arith
room_join (r ∷ rs) more = omega (arith, room_join rs more)

bytes_join : (rs more : List Row) (fs gs : List (List ℕ)) → length fs ≡ length rs → fields_bytes (rs ++ more) (fs ++ gs) ≡ fields_bytes rs fs ++ fields_bytes more gs
unfolding fields_bytes
bytes_join [] more [] gs e = refl
bytes_join [] more (f ∷ fs) gs e = absurd (omega arith)
bytes_join (r ∷ rs) more [] gs e = absurd (omega arith)
bytes_join (r ∷ rs) more (f ∷ fs) gs e =
    let p = padded 0 (room_of r) f in
    ap (λ (x : List ℕ). p ++ x) (bytes_join rs more fs gs (omega arith)) ∙ sym (append_assoc p (fields_bytes rs fs) (fields_bytes more gs))

-- a field after others is in its set
ok_after : (rs : List Row) (r : Row) (more : List Row) (off : ℕ) (slot : List ℕ) → fields_ok (rs ++ (r ∷ more)) off slot ≡ true → ok_of r slot (off + room_all rs) ≡ true
unfolding fields_ok room_all
ok_after [] r more off slot h = rw (add-zero off) (both_left (ok_of r slot off) (fields_ok more (off + room_of r) slot) h)
ok_after (x ∷ rs) r more off slot h =
    let e : off + (room_of x + room_all rs) ≡ off + room_of x + room_all rs = omega arith in
    rw e (ok_after rs r more (off + room_of x) slot (both_right (ok_of x slot off) (fields_ok (rs ++ (r ∷ more)) (off + room_of x) slot) h))

-- ---- the pieces

one_field : (r : Row) (off : ℕ) (slot : List ℕ) → field_bytes r slot off ≡ fields_bytes (r ∷ []) (fields_of (r ∷ []) off slot)
unfolding field_bytes fields_bytes fields_of
one_field r off slot = sym (append-nil (padded 0 (room_of r) (field_in r (slice slot off (room_of r)))))

-- a field that is not counted fills its room
abbrev Fixed : Row → Type 0
Fixed r = r.unit ≡ 0

slice_join : (s : List ℕ) (a m n : ℕ) → slice s a m ++ slice s (a + m) n ≡ slice s a (m + n)
unfolding slice
slice_join s a m n = ap (λ (x : List ℕ). take m (drop a s) ++ take n x) (sym (drop-drop m a s)) ∙ sym (take-add m n (drop a s))

fixed_field : (r : Row) (off : ℕ) (slot : List ℕ) → Fixed r → off + room_of r ≤ length slot → padded 0 (room_of r) (field_in r (slice slot off (room_of r))) ≡ slice slot off (room_of r)
unfolding field_in len_of
fixed_field r off slot e h =
    let place = slice slot off (room_of r) in
    let l : length place ≡ room_of r = length_slice slot off (room_of r) h in
    let z : r.unit * first_of r place 0 ≡ 0 = ap (λ (u : ℕ). u * first_of r place 0) e ∙ zero-mul (first_of r place 0) in
    let y : r.unit * r.most ≡ 0 = ap (λ (u : ℕ). u * r.most) e ∙ zero-mul r.most in
    ap (padded 0 (room_of r)) (take_all (r.size + r.unit * first_of r place 0) place (omega arith)) ∙ padded_all {A = ℕ} 0 (room_of r) place l

fixed_fields : (rs : List Row) (off : ℕ) (slot : List ℕ) → All Fixed rs → off + room_all rs ≤ length slot → slice slot off (room_all rs) ≡ fields_bytes rs (fields_of rs off slot)
unfolding fields_bytes fields_of room_all
fixed_fields [] off slot a h = unfold slice in refl
fixed_fields (r ∷ rs) off slot a h =
    sym (slice_join slot off (room_of r) (room_all rs))
    ∙ ap (λ (x : List ℕ). slice slot off (room_of r) ++ x) (fixed_fields rs (off + room_of r) slot a.1 (omega arith))
    ∙ ap (λ (x : List ℕ). x ++ fields_bytes rs (fields_of rs (off + room_of r) slot)) (sym (fixed_field r off slot a.0 (omega arith)))

abbrev body_from : ℕ → ℕ → List (List ℕ) → Body
body_from m n fs = record { first = m; second = n; fields = fs }

-- the marks and fields that are not counted
fixed_record : (rs : List Row) (slot : List ℕ) → All Fixed rs → 2 + room_all rs ≤ length slot
    → slice slot 0 (2 + room_all rs) ≡ record_bytes rs (body_from (num_at 1 slot 0) (num_at 1 slot 1) (fields_of rs 2 slot))
unfolding record_bytes
fixed_record rs slot a h =
    sym (slice_join slot 0 2 (room_all rs))
    ∙ ap (λ (x : List ℕ). x ++ slice slot 2 (room_all rs)) (marks_are slot (omega arith))
    ∙ ap (λ (x : List ℕ). num_at 1 slot 0 ∷ num_at 1 slot 1 ∷ x) (fixed_fields rs 2 slot a h)

-- ---- a record at index at, and the fields after it

module _ (at m n : ℕ) (out : List ℕ) where
  record_next : (rs more : List Row) (fs gs : List (List ℕ)) {q : ℕ} {x y f : List ℕ} → length fs ≡ length rs → at + (2 + room_all (rs ++ more)) ≤ length out → q ≡ at + (2 + room_all rs)
      → x ≡ splice out at (record_bytes rs (body_from m n fs)) → y ≡ splice x q f → f ≡ fields_bytes more gs → y ≡ splice out at (record_bytes (rs ++ more) (body_from m n (fs ++ gs)))
  record_next rs more fs gs {q} {x} {y} {f} same room eq ex ey ef =
      let r = record_bytes rs (body_from m n fs) in
      let g = fields_bytes more gs in
      let lr = length_record rs (body_from m n fs) in
      let lg = length_fields more gs in
      let j = room_join rs more in
      ey
      ∙ ap (λ (z : List ℕ). splice z q f) ex
      ∙ ap (splice (splice out at r) q) ef
      ∙ splice_after out at r g q (omega arith) (omega arith)
      ∙ ap (splice out at) joined
    where
      joined : record_bytes rs (body_from m n fs) ++ fields_bytes more gs ≡ record_bytes (rs ++ more) (body_from m n (fs ++ gs))
      joined = unfold record_bytes in ap (λ (z : List ℕ). m ∷ n ∷ z) (sym (bytes_join rs more fs gs same))

-- ---- a window: its title, its rectangles and the overlay description are counted

module _ (slot : List ℕ) (ok : fields_ok window_fields 2 slot ≡ true) where
  pub title_ok : ok_of (get_or all_rows 4 no_row) slot 15 ≡ true
  unfolding room_all
  title_ok = ok_after (rows_from 1 4) (get_or all_rows 4 no_row) (rows_from 5 22) 2 slot ok

  pub rectangles_ok : ok_of (get_or all_rows 14 no_row) slot 598 ≡ true
  unfolding room_all
  rectangles_ok = ok_after (rows_from 1 14) (get_or all_rows 14 no_row) (rows_from 15 22) 2 slot ok

  pub visibility_ok : ok_of (get_or all_rows 16 no_row) slot 736 ≡ true
  unfolding room_all
  visibility_ok = ok_after (rows_from 1 16) (get_or all_rows 16 no_row) (rows_from 17 22) 2 slot ok

  pub overlay_ok : ok_of (get_or all_rows 17 no_row) slot 866 ≡ true
  unfolding room_all
  overlay_ok = ok_after (rows_from 1 17) (get_or all_rows 17 no_row) (rows_from 18 22) 2 slot ok

-- the older rows before row k
abbrev older : ℕ → List Row
older k = rows_from 1 7 ++ rows_from 9 k

module _ (slot : List ℕ) (inside : 1392 ≤ length slot) where
  abbrev part : ℕ → ℕ → ℕ → List (List ℕ)
  part low high off = fields_of (rows_from low high) off slot

  pub window_put : (out : List ℕ) {x y z u v w t : List ℕ} → window_size ≤ length out
      → x ≡ splice out 0 (slice slot 0 15)
      → y ≡ splice x 15 (field_bytes (get_or all_rows 4 no_row) slot 15)
      → z ≡ splice y 537 (slice slot 537 16)
      → u ≡ splice z 553 (slice slot 569 29)
      → v ≡ splice u 582 (field_bytes (get_or all_rows 14 no_row) slot 598)
      → w ≡ splice v 712 (slice slot 728 8)
      → t ≡ splice w 720 (field_bytes (get_or all_rows 16 no_row) slot 736)
      → t ≡ splice out 0 (record_bytes older_fields (older_part (body_of window_fields slot)))
  unfolding room_all fields_of body_of
  window_put out {x} {y} {z} {u} {v} {w} {t} room ex ey ez eu ev ew et =
      let m = num_at 1 slot 0 in
      let n = num_at 1 slot 1 in
      let f = part 1 4 2 in
      let g = part 4 5 15 in
      let h = part 5 7 537 in
      let i = part 9 14 569 in
      let j = part 14 15 598 in
      let k = part 15 16 728 in
      let a = ex ∙ ap (splice out 0) (fixed_record (rows_from 1 4) slot (refl, (refl, (refl, tt))) (omega arith)) in
      let b = record_next 0 m n out (rows_from 1 4) (rows_from 4 5) f g {x = x} {y = y} refl (omega arith) refl a ey (one_field (get_or all_rows 4 no_row) 15 slot) in
      let c = record_next 0 m n out (rows_from 1 5) (rows_from 5 7) (f ++ g) h {x = y} {y = z} refl (omega arith) refl b ez (fixed_fields (rows_from 5 7) 537 slot (refl, (refl, tt)) (omega arith)) in
      let d = record_next 0 m n out (rows_from 1 7) (rows_from 9 14) (f ++ g ++ h) i {x = z} {y = u} refl (omega arith) refl c eu
      (fixed_fields (rows_from 9 14) 569 slot (refl, (refl, (refl, (refl, (refl, tt))))) (omega arith)) in
      let e = record_next 0 m n out (older 14) (rows_from 14 15) (f ++ g ++ h ++ i) j {x = u} {y = v} refl (omega arith) refl d ev (one_field (get_or all_rows 14 no_row) 598 slot) in
      let o = record_next 0 m n out (older 15) (rows_from 15 16) (f ++ g ++ h ++ i ++ j) k {x = v} {y = w} refl (omega arith) refl e ew (fixed_fields (rows_from 15 16) 728 slot (refl, tt) (omega arith)) in
      record_next 0 m n out (older 16) (rows_from 16 17) (f ++ g ++ h ++ i ++ j ++ k) (part 16 17 736) {x = w} {y = t} refl (omega arith) refl o et (one_field (get_or all_rows 16 no_row) 736 slot)

  pub newer_put : (out : List ℕ) (at : ℕ) {x y z w : List ℕ} → at + newer_size ≤ length out
      → x ≡ splice out at (replicate 2 0)
      → y ≡ splice x (at + 2) (slice slot 553 16)
      → z ≡ splice y (at + 18) (field_bytes (get_or all_rows 17 no_row) slot 866)
      → w ≡ splice z (at + 540) (slice slot 1388 4)
      → w ≡ splice out at (record_bytes newer_fields (newer_part (body_of window_fields slot)))
  unfolding room_all fields_of body_of
  newer_put out at {x} {y} {z} {w} room ex ey ez ew =
      let f = part 7 9 553 in
      let g = part 17 18 866 in
      let a = ex ∙ ap (splice out at) marks in
      let b = record_next at 0 0 out [] (rows_from 7 9) [] f {x = x} {y = y} refl (omega arith) refl a ey (fixed_fields (rows_from 7 9) 553 slot (refl, (refl, tt)) (omega arith)) in
      let c = record_next at 0 0 out (rows_from 7 9) (rows_from 17 18) f g {x = y} {y = z} refl (omega arith) refl b ez (one_field (get_or all_rows 17 no_row) 866 slot) in
      record_next at 0 0 out (rows_from 7 9 ++ rows_from 17 18) (rows_from 18 22) (f ++ g) (part 18 22 1388) {x = z} {y = w} refl (omega arith) refl c ew
      (fixed_fields (rows_from 18 22) 1388 slot (refl, (refl, (refl, (refl, tt)))) (omega arith))
    where
      marks : replicate 2 0 ≡ record_bytes [] (body_from 0 0 [])
      marks = unfold record_bytes fields_bytes in refl
