-- The typed view of a picture loses nothing, memory holds valid records and pictures, and what is handed out is shown as what
-- the table has. Assumes nothing.
use mathlib.Core.Path.{◌≡◌, refl, sym, ap, ap₂, ◌∙◌}
use mathlib.Core.Bool.{Bool, true, false}
use mathlib.Core.List.{List, [], ◌∷◌, ◌++◌, append_assoc}
use Prim.Native.Nat.{ℕ, zero, suc, ◌+◌, ◌-◌, ◌≤◌}
use native.Mathlib.Omega.{arith}
use lib.ListN.{length, take, drop, length-append, length-drop, take-append-drop}
use lib.Seq.{get_or-drop, drop-append_seam}
use Rattle.wire.specs.Numbers.{num_at, nums_at, total, Bytes}
use Rattle.wire.specs.Parts.{slice, padded}
use Rattle.wire.proofs.Parts.{length_slice, get_d_padded, padded_ext, padded_same}
use Rattle.wire.proofs.Numbers.{num_slice, num_padded, bytes_slice, nums_take}
use Rattle.rows.specs.declared.Row.{Row}
use Rattle.rows.specs.Rows.{rows_from, room_of, len_of}
use Rattle.order.specs.declared.IconParts.{IconParts}
use Rattle.order.specs.Icons.{tabled, parts_from, parts_of}
use Rattle.body.specs.Bodies.{Body, window_fields, field_in, fields_of, body_of, body_ok}
use Rattle.body.specs.Stores.{room_all}
use Rattle.cache.specs.Cells.{cell_ok, picture_of}
use Rattle.layout.specs.Valid.{ValidFields, ValidBody}
use Rattle.layout.specs.Layouts.{picture_size, newer_start, older_fields, newer_fields, field_at, record_bytes, picture_bytes}
use Rattle.layout.proofs.LayoutsLossless.{sizes_hold, content_few, in_cell, keeps_record}
use Rattle.layout.proofs.LayoutsParts.{valid_older, valid_newer, keeps_older, keeps_newer}
use Rattle.layout.proofs.ValidMemory.{valid_body}
use Rattle.view.specs.declared.PictureRecord.{PictureRecord}
use Rattle.view.specs.Views.{window_in, window_of, notification_of, desktop_of, head_size, picture_view}
use Rattle.view.specs.Lossless.{window_parts, BytesEach, ValidRecord, ValidWindow, content_size, ValidPicture, MemoryValid, ViewsLoseNothing, ShownAsHeld}
use Rattle.view.proofs.ViewsLossless.{window_same, notification_same, desktop_same}

-- ---- the view of a picture, by whether it has a color table

abbrev with_table_lem : List ℕ → PictureRecord
with_table_lem p =
    record { bits = num_at 1 p 0; width = num_at 2 p 1; height = num_at 2 p 3; mask = num_at 2 p 7; table = num_at 2 p 5; color = num_at 2 p 9; bytes = padded 0 4224 (drop 11 p) }

abbrev no_table_lem : List ℕ → PictureRecord
no_table_lem p =
    record { bits = num_at 1 p 0; width = num_at 2 p 1; height = num_at 2 p 3; mask = num_at 2 p 5; table = 0; color = num_at 2 p 7; bytes = padded 0 4224 (drop 9 p) }

module _ (p : List ℕ) where
  with_table : tabled (num_at 1 p 0) ≡ true → picture_view p ≡ with_table_lem p
  unfolding picture_view
  with_table t = rw t

  no_table : tabled (num_at 1 p 0) ≡ false → picture_view p ≡ no_table_lem p
  unfolding picture_view
  no_table t = rw t

  head_with : tabled (num_at 1 p 0) ≡ true → head_size p ≡ 11
  head_with t = rw t

  head_no : tabled (num_at 1 p 0) ≡ false → head_size p ≡ 9
  head_no t = rw t

  content_with : tabled (num_at 1 p 0) ≡ true → content_size p ≡ num_at 2 p 7 + num_at 2 p 5 + num_at 2 p 9
  content_with t = ap (λ (x : PictureRecord). x.mask + x.table + x.color) (with_table t)

  content_no : tabled (num_at 1 p 0) ≡ false → content_size p ≡ num_at 2 p 5 + 0 + num_at 2 p 7
  content_no t = ap (λ (x : PictureRecord). x.mask + x.table + x.color) (no_table t)

  bits_are : (picture_view p).bits ≡ num_at 1 p 0
  bits_are = go (tabled (num_at 1 p 0)) refl
    where
      go : (b : Bool) → tabled (num_at 1 p 0) ≡ b → (picture_view p).bits ≡ num_at 1 p 0
      go true t = ap (λ (x : PictureRecord). x.bits) (with_table t)
      go false t = ap (λ (x : PictureRecord). x.bits) (no_table t)

-- ---- nothing is lost

-- numbers, and what follows them
joined : (ws p q : List ℕ) → Bytes p → Bytes q → total ws ≤ length p → total ws ≤ length q → nums_at ws p 0 ≡ nums_at ws q 0 → drop (total ws) p ≡ drop (total ws) q → p ≡ q
joined ws p q bp bq hp hq e d =
    sym (take-append-drop (total ws) p)
    ∙ ap (λ (x : List ℕ). x ++ drop (total ws) p) (nums_take ws p q bp bq hp hq e)
    ∙ ap (λ (x : List ℕ). take (total ws) q ++ x) d
    ∙ take-append-drop (total ws) q

rest_same : (k n : ℕ) (p q : List ℕ) → length p ≡ k + n → length q ≡ k + n → n ≤ 4224 → padded 0 4224 (drop k p) ≡ padded 0 4224 (drop k q) → drop k p ≡ drop k q
rest_same k n p q lp lq few e =
    let a : length (drop k p) ≡ length p - k = length-drop k p in
    let b : length (drop k q) ≡ length q - k = length-drop k q in
    padded_same {A = ℕ} 0 4224 (drop k p) (drop k q) (omega arith) (omega arith) e

module _ (p q : List ℕ) (vp : ValidPicture p) (vq : ValidPicture q) where
  same_with : tabled (num_at 1 p 0) ≡ true → tabled (num_at 1 q 0) ≡ true → with_table_lem p ≡ with_table_lem q → p ≡ q
  unfolding nums_at total
  same_with tp tq e =
      let m = ap (λ (x : PictureRecord). x.mask) e in
      let t = ap (λ (x : PictureRecord). x.table) e in
      let c = ap (λ (x : PictureRecord). x.color) e in
      let n = num_at 2 p 7 + num_at 2 p 5 + num_at 2 p 9 in
      let lp : length p ≡ 11 + n = omega (arith, vp.long, head_with p tp, content_with p tp) in
      let lq : length q ≡ 11 + n = omega (arith, vq.long, head_with q tq, content_with q tq, m, t, c) in
      joined (1 ∷ 2 ∷ 2 ∷ 2 ∷ 2 ∷ 2 ∷ []) p q vp.bytes vq.bytes (omega arith) (omega arith)
      (rw (ap (λ (x : PictureRecord). x.bits) e, ap (λ (x : PictureRecord). x.width) e, ap (λ (x : PictureRecord). x.height) e, t, m, c))
      (rest_same 11 n p q lp lq (omega (arith, vp.few, content_with p tp)) (ap (λ (x : PictureRecord). x.bytes) e))

  same_no : tabled (num_at 1 p 0) ≡ false → tabled (num_at 1 q 0) ≡ false → no_table_lem p ≡ no_table_lem q → p ≡ q
  unfolding nums_at total
  same_no tp tq e =
      let m = ap (λ (x : PictureRecord). x.mask) e in
      let c = ap (λ (x : PictureRecord). x.color) e in
      let n = num_at 2 p 5 + num_at 2 p 7 in
      let lp : length p ≡ 9 + n = omega (arith, vp.long, head_no p tp, content_no p tp) in
      let lq : length q ≡ 9 + n = omega (arith, vq.long, head_no q tq, content_no q tq, m, c) in
      joined (1 ∷ 2 ∷ 2 ∷ 2 ∷ 2 ∷ []) p q vp.bytes vq.bytes (omega arith) (omega arith)
      (rw (ap (λ (x : PictureRecord). x.bits) e, ap (λ (x : PictureRecord). x.width) e, ap (λ (x : PictureRecord). x.height) e, m, c))
      (rest_same 9 n p q lp lq (omega (arith, vp.few, content_no p tp)) (ap (λ (x : PictureRecord). x.bytes) e))

  picture_same : picture_view p ≡ picture_view q → p ≡ q
  picture_same e = go (tabled (num_at 1 p 0)) refl
    where
      bits : num_at 1 q 0 ≡ num_at 1 p 0
      bits = sym (sym (bits_are p) ∙ ap (λ (x : PictureRecord). x.bits) e ∙ bits_are q)

      go : (b : Bool) → tabled (num_at 1 p 0) ≡ b → p ≡ q
      go true t = let u = ap (λ (n : ℕ). tabled n) bits ∙ t in same_with t u (sym (with_table p t) ∙ e ∙ with_table q u)
      go false t = let u = ap (λ (n : ℕ). tabled n) bits ∙ t in same_no t u (sym (no_table p t) ∙ e ∙ no_table q u)

pub views_lose_nothing : ViewsLoseNothing
views_lose_nothing = record { window = window_same; notification = notification_same; desktop = desktop_same; picture = picture_same }

-- ---- memory

module _ (cell : List ℕ) where
  parts_with : tabled (num_at 1 cell 3) ≡ true → parts_of cell 0 ≡ parts_from 14 (num_at 2 cell 10) (num_at 2 cell 8) (num_at 2 cell 12)
  unfolding parts_of
  parts_with t = rw t

  parts_no : tabled (num_at 1 cell 3) ≡ false → parts_of cell 0 ≡ parts_from 12 (num_at 2 cell 8) 0 (num_at 2 cell 10)
  unfolding parts_of
  parts_no t = rw t

module _ (cell : List ℕ) (bytes : Bytes cell) (long : 4240 ≤ length cell) (ok : cell_ok cell ≡ true) where
  abbrev end : ℕ
  end = (parts_of cell 0).end

  abbrev picture : List ℕ
  picture = slice cell 3 (end - 3)

  same : (w i : ℕ) → i + w ≤ end - 3 → num_at w picture i ≡ num_at w cell (3 + i)
  same w i h = num_slice w cell 3 (end - 3) i h

  length_is : length picture ≡ end - 3
  length_is = let i = in_cell cell ok in length_slice cell 3 (end - 3) (omega arith)

  bits : num_at 1 picture 0 ≡ num_at 1 cell 3
  bits = let i = in_cell cell ok in same 1 0 (omega arith)

  valid : ValidPicture picture
  valid = go (tabled (num_at 1 cell 3)) refl
    where
      few : end - (parts_of cell 0).mask ≤ 4224
      few = content_few cell ok

      go : (b : Bool) → tabled (num_at 1 cell 3) ≡ b → ValidPicture picture
      go true t =
          let u : tabled (num_at 1 picture 0) ≡ true = ap (λ (n : ℕ). tabled n) bits ∙ t in
          let m : (parts_of cell 0).mask ≡ 14 = ap (λ (x : IconParts). x.mask) (parts_with cell t) in
          let e : end ≡ 14 + num_at 2 cell 10 + num_at 2 cell 8 + num_at 2 cell 12 = ap (λ (x : IconParts). x.end) (parts_with cell t) in
          let a : num_at 2 picture 5 ≡ num_at 2 cell 8 = same 2 5 (omega (arith, e)) in
          let b : num_at 2 picture 7 ≡ num_at 2 cell 10 = same 2 7 (omega (arith, e)) in
          let c : num_at 2 picture 9 ≡ num_at 2 cell 12 = same 2 9 (omega (arith, e)) in
          let n : content_size picture ≡ num_at 2 picture 7 + num_at 2 picture 5 + num_at 2 picture 9 = content_with picture u in
          record {
            bytes = bytes_slice cell 3 (end - 3) bytes;
            long = omega (arith, length_is, e, head_with picture u, n, a, b, c);
            few = omega (arith, few, m, e, n, a, b, c);
          }
      go false t =
          let u : tabled (num_at 1 picture 0) ≡ false = ap (λ (n : ℕ). tabled n) bits ∙ t in
          let m : (parts_of cell 0).mask ≡ 12 = ap (λ (x : IconParts). x.mask) (parts_no cell t) in
          let e : end ≡ 12 + num_at 2 cell 8 + 0 + num_at 2 cell 10 = ap (λ (x : IconParts). x.end) (parts_no cell t) in
          let a : num_at 2 picture 5 ≡ num_at 2 cell 8 = same 2 5 (omega (arith, e)) in
          let b : num_at 2 picture 7 ≡ num_at 2 cell 10 = same 2 7 (omega (arith, e)) in
          let n : content_size picture ≡ num_at 2 picture 5 + 0 + num_at 2 picture 7 = content_no picture u in
          record {
            bytes = bytes_slice cell 3 (end - 3) bytes;
            long = omega (arith, length_is, e, head_no picture u, n, a, b);
            few = omega (arith, few, m, e, n, a, b);
          }

  valid_picture : ValidPicture (picture_of cell)
  unfolding picture_of
  valid_picture = valid

bytes_field : (r : Row) (slot : List ℕ) (off : ℕ) → Bytes slot → Bytes (field_at r slot off)
unfolding field_in
bytes_field r slot off b = go (len_of r (slice slot off (room_of r)) 0)
  where
    go : (n : ℕ) → Bytes (take n (slice slot off (room_of r)))
    go n = unfold slice in bytes_slice (slice slot off (room_of r)) 0 n (bytes_slice slot off (room_of r) b)

bytes_each : (rows : List Row) (off : ℕ) (slot : List ℕ) → Bytes slot → BytesEach (fields_of rows off slot)
unfolding fields_of
bytes_each [] off slot b = tt
bytes_each (r ∷ rs) off slot b = (bytes_field r slot off b, bytes_each rs (off + room_of r) slot b)

valid_record : (low high m n : ℕ) (slot : List ℕ) → Bytes slot → 2 + room_all (rows_from low high) ≤ length slot → body_ok (rows_from low high) m n slot ≡ true
    → ValidRecord (rows_from low high) m n (body_of (rows_from low high) slot)
valid_record low high m n slot b inside ok = record { body = valid_body low high m n slot inside ok; bytes = each }
  where
    each : BytesEach (body_of (rows_from low high) slot).fields
    each = unfold body_of in bytes_each (rows_from low high) 2 slot b

each_take : (n : ℕ) (fs : List (List ℕ)) → BytesEach fs → BytesEach (take n fs)
each_take zero fs b = tt
each_take (suc n) [] b = tt
each_take (suc n) (f ∷ fs) b = (b.0, each_take n fs b.1)

each_drop : (n : ℕ) (fs : List (List ℕ)) → BytesEach fs → BytesEach (drop n fs)
each_drop zero fs b = b
each_drop (suc n) [] b = tt
each_drop (suc n) (f ∷ fs) b = each_drop n fs b.1

each_join : (fs gs : List (List ℕ)) → BytesEach fs → BytesEach gs → BytesEach (fs ++ gs)
each_join [] gs b c = c
each_join (f ∷ fs) gs b c = (b.0, each_join fs gs b.1 c)

valid_window : (small big overlay : ℕ) (fs : List (List ℕ)) → small ≤ 1 → big ≤ 1 → overlay ≤ 1 → ValidFields window_fields fs → BytesEach fs → ValidWindow (window_parts small big overlay fs)
valid_window small big overlay fs s b o v e =
    record {
      older = record { body = record { first = s; second = b; fields = valid_older fs v }; bytes = each_join (take 6 fs) (take 8 (drop 8 fs)) (each_take 6 fs e) (each_take 8 (drop 8 fs) (each_drop 8 fs e)) };
      newer = record { body = record { first = o; second = omega arith; fields = valid_newer fs v }; bytes = each_join (take 2 (drop 6 fs)) (drop 16 fs) (each_take 2 (drop 6 fs) (each_drop 6 fs e)) (each_drop 16 fs e) };
    }

pub memory_valid : MemoryValid
memory_valid = record { body = valid_record; window = valid_window; picture = valid_picture }

-- ---- what is handed out

rest_padded : (k : ℕ) (p : List ℕ) → k ≤ 11 → padded 0 4224 (drop k (padded 0 4235 p)) ≡ padded 0 4224 (drop k p)
rest_padded k p h =
    padded_ext {A = ℕ} 0 4224 (drop k (padded 0 4235 p)) (drop k p)
    (λ i l. get_or-drop k (padded 0 4235 p) i 0 ∙ get_d_padded {A = ℕ} 0 4235 p (k + i) (omega arith) ∙ sym (get_or-drop k p i 0))

shown_picture : (p : List ℕ) → picture_view (picture_bytes p) ≡ picture_view p
unfolding picture_view picture_bytes
shown_picture p =
    rw (
      num_padded 1 4235 0 p (omega arith),
      num_padded 2 4235 1 p (omega arith),
      num_padded 2 4235 3 p (omega arith),
      num_padded 2 4235 5 p (omega arith),
      num_padded 2 4235 7 p (omega arith),
      num_padded 2 4235 9 p (omega arith),
      rest_padded 11 p (omega arith),
      rest_padded 9 p (omega arith),
    )

module _ (a b : Body) (pictures more : List ℕ) (va : ValidBody older_fields 1 1 a) (vb : ValidBody newer_fields 1 0 b) (l : length pictures ≡ picture_size + picture_size) where
  abbrev after : List ℕ
  after = record_bytes newer_fields b ++ more

  after_all : drop newer_start (record_bytes older_fields a ++ (pictures ++ after)) ≡ after
  after_all =
      let x = record_bytes older_fields a in
      let n : newer_start ≡ length (x ++ pictures) = sym (length-append x pictures ∙ omega (arith, (keeps_older 1 1 a va).long, sizes_hold.window, l)) in
      ap (drop newer_start) (sym (append_assoc x pictures after))
      ∙ ap (λ (k : ℕ). drop k ((x ++ pictures) ++ after)) n
      ∙ drop-append_seam (x ++ pictures) after

  shown_window : window_of (window_in (record_bytes older_fields a ++ (pictures ++ after))) ≡ window_of (record { older = a; newer = b })
  unfolding window_in
  shown_window =
      let o = (keeps_older 1 1 a va).before (pictures ++ after) in
      let n = ap (body_of newer_fields) after_all ∙ (keeps_newer 1 0 b vb).before more in
      ap₂ (λ (x y : Body). window_of (record { older = x; newer = y })) o n

pub shown_as_held : ShownAsHeld
shown_as_held =
    record {
      window = shown_window;
      notification = λ b v. ap notification_of (keeps_record 23 29 1 0 b v).back;
      desktop = λ b v. ap desktop_of (keeps_record 29 31 1 1 b v).back;
      picture = shown_picture;
    }
