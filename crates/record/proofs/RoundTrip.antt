-- One list has one record: the two directions. Assumes nothing.
use mathlib.Core.Path.{◌≡◌, refl, sym, ap, ◌∙◌}
use mathlib.Core.Bool.{true, false}
use mathlib.Core.List.{List, [], ◌∷◌, ◌++◌, map, append_assoc, append-nil}
use Prim.Native.Nat.{ℕ, zero, suc, ◌+◌, ◌*◌, ◌-◌, ◌≤◌, ◌<◌}
use native.Mathlib.Omega.{arith}
use lib.ListN.{length, get_or, take, drop, length-append, length-drop, length-map, take-append-drop, drop_of_length-le}
use lib.Seq.{drop_at, take-append_seam, drop-append_seam, drop-drop, take-add}
use borrow.Author.Tests.{le-ltb, eq-eqb}
use Rattle.wire.specs.Numbers.{num_at, bytes_of, nums_at, put_all, total}
use Rattle.wire.specs.Parts.{slice}
use Rattle.wire.proofs.Numbers.{Bytes, length_bytes, length_put, nums_put, put_nums, fit2, fit4, fit0, all_fit_lem, bytes_drop}
use Rattle.wire.proofs.Parts.{length_slice, slice_cut}
use Rattle.journal.specs.State.{bytes_in}
use Rattle.record.specs.declared.Entry.{Entry}
use Rattle.record.specs.Layout.{entry, head_of, layout_from, table_of, joined, record_of, Limits}
use Rattle.record.specs.Reading.{count_in, entries_from, contents_of, past_end, sizes_in, placed_from, record_number, part_of, parts_of, bodies_of}
use Rattle.record.specs.RoundTrip.{ReadsBack, WritesBack, OneRecord}
use Rattle.record.proofs.Granted.{Granted, granted, granted_facts}
use Rattle.record.proofs.Entries.{length_entries, entries_drop, past_first, past_rest, placed_first, placed_rest, part_within, length_table}

-- ---- the layout of orders

pub length_layout : (p : ℕ) (os : List (List ℕ)) → length (layout_from p os) ≡ length os
unfolding layout_from
length_layout p [] = refl
length_layout p (o ∷ os) = ap suc (length_layout (p + length o) os)

sizes_layout : (p : ℕ) (os : List (List ℕ)) → sizes_in (layout_from p os) ≡ bytes_in os
unfolding layout_from sizes_in bytes_in
sizes_layout p [] = refl
sizes_layout p (o ∷ os) = ap (λ (n : ℕ). length o + n) (sizes_layout (p + length o) os)

placed_layout : (p : ℕ) (os : List (List ℕ)) → placed_from p (layout_from p os) ≡ true
unfolding layout_from placed_from
placed_layout p [] = refl
placed_layout p (o ∷ os) = rw (eq-eqb p p refl, placed_layout (p + length o) os)

past_layout : (n p : ℕ) (os : List (List ℕ)) → p + bytes_in os ≤ n → past_end n (layout_from p os) ≡ false
unfolding layout_from past_end bytes_in
past_layout n p [] h = refl
past_layout n p (o ∷ os) h =
    let w : p + length o ≤ n = omega arith in
    rw (le-ltb n (p + length o) w, past_layout n (p + length o) os (omega arith))

pub length_joined : (os : List (List ℕ)) → length (joined os) ≡ bytes_in os
unfolding joined bytes_in
length_joined [] = refl
length_joined (o ∷ os) = length-append o (joined os) ∙ ap (λ (n : ℕ). length o + n) (length_joined os)

pub length_record : (os : List (List ℕ)) → length (record_of os) ≡ head_of (length os) + bytes_in os
unfolding record_of
length_record os =
    let t = table_of (layout_from (head_of (length os)) os) in
    let a = length-append (bytes_of 2 (length os)) (t ++ joined os) in
    let b = length-append t (joined os) in
    let c = length_bytes 2 (length os) in
    let d = length_table (layout_from (head_of (length os)) os) in
    let e = length_layout (head_of (length os)) os in
    omega (arith, a, b, c, d, e, length_joined os)

-- ---- what is written reads back

-- an entry that was written, and what follows it
module _ (e : Entry) (t : List ℕ) (po : e.offset < 4294967296) (ps : e.size < 4294967296) where
  both_back : nums_at (4 ∷ 4 ∷ []) (put_all (4 ∷ 4 ∷ []) (e.offset ∷ e.size ∷ []) ++ t) 0 ≡ e.offset ∷ e.size ∷ []
  both_back = nums_put (4 ∷ 4 ∷ []) (e.offset ∷ e.size ∷ []) t (all_fit_lem (4 ∷ 4 ∷ []) (e.offset ∷ e.size ∷ []) (fit4 po (fit4 ps fit0)))

  offset_back : num_at 4 (put_all (4 ∷ 4 ∷ []) (e.offset ∷ e.size ∷ []) ++ t) 0 ≡ e.offset
  unfolding nums_at
  offset_back = ap (λ (l : List ℕ). get_or l 0 0) both_back

  size_back : num_at 4 (put_all (4 ∷ 4 ∷ []) (e.offset ∷ e.size ∷ []) ++ t) 4 ≡ e.size
  unfolding nums_at
  size_back = ap (λ (l : List ℕ). get_or l 1 0) both_back

  after_back : drop 8 (put_all (4 ∷ 4 ∷ []) (e.offset ∷ e.size ∷ []) ++ t) ≡ t
  unfolding total
  after_back = drop_at (put_all (4 ∷ 4 ∷ []) (e.offset ∷ e.size ∷ [])) t 8 (length_put (4 ∷ 4 ∷ []) (e.offset ∷ e.size ∷ []))

entries_back : (os : List (List ℕ)) (p : ℕ) (t : List ℕ) → p + bytes_in os < 4294967296
    → entries_from (length os) 0 (table_of (layout_from p os) ++ t) ≡ layout_from p os
unfolding entries_from table_of layout_from bytes_in
entries_back [] p t h = refl
entries_back (o ∷ os) p t h =
    let e = entry p (length o) in
    let w = put_all (4 ∷ 4 ∷ []) (p ∷ length o ∷ []) in
    let u = table_of (layout_from (p + length o) os) ++ t in
    let po : p < 4294967296 = omega arith in
    let ps : length o < 4294967296 = omega arith in
    let tl : entries_from (length os) 8 (w ++ u) ≡ layout_from (p + length o) os =
    sym (entries_drop (length os) 8 0 (w ++ u)) ∙ rw (after_back e u po ps) (entries_back os (p + length o) t (omega arith)) in
    rw (append_assoc w (table_of (layout_from (p + length o) os)) t, offset_back e u po ps, size_back e u po ps, tl)

-- the parts of the layout, where the bodies stand at its end
first_back : (o t : List ℕ) (p : ℕ) (r : List ℕ) → drop p r ≡ o ++ t → slice r p (length o) ≡ o
unfolding slice
first_back o t p r h = rw h (take-append_seam o t)

parts_back : (os : List (List ℕ)) (p : ℕ) (r : List ℕ) → p ≤ length r → drop p r ≡ joined os → map (part_of r) (layout_from p os) ≡ os
unfolding layout_from joined
parts_back [] p r l h = refl
parts_back (o ∷ os) p r l h =
    let n : length r - p ≡ length o + length (joined os) = sym (length-drop p r) ∙ ap length h ∙ length-append o (joined os) in
    let w : p + length o ≤ length r = omega arith in
    let d : drop (p + length o) r ≡ joined os = sym (drop-drop (length o) p r) ∙ ap (drop (length o)) h ∙ drop-append_seam o (joined os) in
    rw (part_within r (entry p (length o)) w, first_back o (joined os) p r h, parts_back os (p + length o) r w d)

module _ (os : List (List ℕ)) (m : Limits os) where
  abbrev h : ℕ
  h = head_of (length os)

  count_back : count_in (record_of os) ≡ length os
  unfolding record_of put_all nums_at
  count_back =
      let t = table_of (layout_from h os) ++ joined os in
      let few = m.few in
      ap (λ (b : List ℕ). num_at 2 (b ++ t) 0) (sym (append-nil (bytes_of 2 (length os))))
      ∙ ap (λ (l : List ℕ). get_or l 0 0) (nums_put (2 ∷ []) (length os ∷ []) t (all_fit_lem (2 ∷ []) (length os ∷ []) (fit2 (omega arith) fit0)))

  after_count : drop 2 (record_of os) ≡ table_of (layout_from h os) ++ joined os
  unfolding record_of
  after_count = drop_at (bytes_of 2 (length os)) (table_of (layout_from h os) ++ joined os) 2 (length_bytes 2 (length os))

  contents_back : contents_of (record_of os) ≡ layout_from h os
  contents_back =
      let small = m.small in
      let few = m.few in
      rw count_back (sym (entries_drop (length os) 2 0 (record_of os)) ∙ rw after_count (entries_back os h (joined os) (omega arith)))

  after_table : drop h (record_of os) ≡ joined os
  after_table =
      let l : length (table_of (layout_from h os)) ≡ 8 * length os = length_table (layout_from h os) ∙ ap (λ (n : ℕ). 8 * n) (length_layout h os) in
      sym (drop-drop (8 * length os) 2 (record_of os)) ∙ ap (drop (8 * length os)) after_count
      ∙ drop_at (table_of (layout_from h os)) (joined os) (8 * length os) l

  number_back : record_number (record_of os) ≡ 0
  number_back =
      let l = length_record os in
      let few = m.few in
      let small = m.small in
      granted (record_of os) (record {
        few = rw count_back few;
        head = rw count_back (omega arith);
        within = rw contents_back (past_layout (length (record_of os)) h os (omega arith));
        small = rw (contents_back, sizes_layout h os) small;
        placed = rw (contents_back, count_back) (placed_layout h os);
        whole = rw (contents_back, count_back, sizes_layout h os) (sym l);
      })

  bodies_back : bodies_of (record_of os) ≡ os
  unfolding bodies_of parts_of
  bodies_back =
      let l = length_record os in
      rw (number_back, contents_back) (parts_back os h (record_of os) (omega arith) after_table)

pub written_back : (os : List (List ℕ)) → Limits os → ReadsBack os
written_back os m = record { number = number_back os m; bodies = bodies_back os m }

-- ---- what is read is written back

pub granted_bodies : (r : List ℕ) → record_number r ≡ 0 → bodies_of r ≡ parts_of r
unfolding bodies_of
granted_bodies r e = rw e

length_part : (r : List ℕ) (e : Entry) → e.offset + e.size ≤ length r → length (part_of r e) ≡ e.size
length_part r e h = ap length (part_within r e h) ∙ length_slice r e.offset e.size h

pub bytes_parts : (r : List ℕ) (es : List Entry) → past_end (length r) es ≡ false → bytes_in (map (part_of r) es) ≡ sizes_in es
unfolding bytes_in sizes_in
bytes_parts r [] h = refl
bytes_parts r (e ∷ es) h = rw (length_part r e (past_first (length r) e es h), bytes_parts r es (past_rest (length r) e es h))

layout_again : (r : List ℕ) (es : List Entry) (p : ℕ) → placed_from p es ≡ true → past_end (length r) es ≡ false → layout_from p (map (part_of r) es) ≡ es
unfolding layout_from
layout_again r [] p pl pa = refl
layout_again r (e ∷ es) p pl pa =
    rw (length_part r e (past_first (length r) e es pa), layout_again r es (p + e.size) (placed_rest p e es pl) (past_rest (length r) e es pa), ← placed_first p e es pl)

joined_again : (r : List ℕ) (es : List Entry) (p : ℕ) → placed_from p es ≡ true → past_end (length r) es ≡ false → p + sizes_in es ≡ length r
    → joined (map (part_of r) es) ≡ drop p r
unfolding joined sizes_in
joined_again r [] p pl pa n = sym (drop_of_length-le r {i = p} (omega arith))
joined_again r (e ∷ es) p pl pa n =
    rw (
      part_within r e (past_first (length r) e es pa),
      joined_again r es (p + e.size) (placed_rest p e es pl) (past_rest (length r) e es pa) (omega arith),
      placed_first p e es pl,
    )
    (slice_cut r p e.size)

table_again : (n : ℕ) (t : List ℕ) → Bytes t → 8 * n ≤ length t → table_of (entries_from n 0 t) ≡ take (8 * n) t
unfolding table_of entries_from nums_at total
table_again zero t b h = refl
table_again (suc n) t b h =
    let l : 8 * n ≤ length (drop 8 t) = simp length-drop (omega arith) in
    let e : 8 * suc n ≡ 8 + 8 * n = omega arith in
    let hd : put_all (4 ∷ 4 ∷ []) (num_at 4 t 0 ∷ num_at 4 t 4 ∷ []) ≡ take 8 t = put_nums (4 ∷ 4 ∷ []) t b (omega arith) in
    let tl : table_of (entries_from n 8 t) ≡ take (8 * n) (drop 8 t) =
    ap table_of (sym (entries_drop n 8 0 t)) ∙ table_again n (drop 8 t) (bytes_drop 8 t b) l in
    rw (hd, tl, e) (sym (take-add 8 (8 * n) t))

module _ (r : List ℕ) (b : Bytes r) (g : Granted r) where
  count_again : bytes_of 2 (count_in r) ≡ take 2 r
  unfolding put_all nums_at total
  count_again =
      let head = g.head in
      sym (append-nil (bytes_of 2 (count_in r))) ∙ put_nums (2 ∷ []) r b (omega arith)

  contents_again : table_of (contents_of r) ≡ take (8 * count_in r) (drop 2 r)
  contents_again =
      let head = g.head in
      let l : 8 * count_in r ≤ length (drop 2 r) = simp length-drop (omega arith) in
      ap table_of (sym (entries_drop (count_in r) 2 0 r)) ∙ table_again (count_in r) (drop 2 r) (bytes_drop 2 r b) l

  record_again : record_of (parts_of r) ≡ r
  unfolding record_of parts_of
  record_again =
      let c = count_in r in
      let n : length (map (part_of r) (contents_of r)) ≡ c = length-map (contents_of r) (part_of r) ∙ length_entries c 2 r in
      rw (
        n,
        count_again,
        layout_again r (contents_of r) (head_of c) g.placed g.within,
        contents_again,
        joined_again r (contents_of r) (head_of c) g.placed g.within g.whole,
        ← drop-drop (8 * c) 2 r,
        take-append-drop (8 * c) (drop 2 r),
      ) (take-append-drop 2 r)

pub limits_parts : (r : List ℕ) → Granted r → Limits (parts_of r)
unfolding parts_of
limits_parts r g =
    record {
      few = rw (length-map (contents_of r) (part_of r), length_entries (count_in r) 2 r) g.few;
      small = rw (bytes_parts r (contents_of r) g.within) g.small;
    }

pub read_back : (r : List ℕ) → Bytes r → record_number r ≡ 0 → WritesBack r
read_back r b e =
    let g = granted_facts r e in
    record { limits = rw (granted_bodies r e) (limits_parts r g); «record» = rw (granted_bodies r e) (record_again r b g) }

-- ---- the two together

same_record_lem : (r r' : List ℕ) → Bytes r → Bytes r' → record_number r ≡ 0 → record_number r' ≡ 0 → bodies_of r ≡ bodies_of r' → r ≡ r'
same_record_lem r r' b b' n n' e = sym (read_back r b n).«record» ∙ ap record_of e ∙ (read_back r' b' n').«record»

pub one_record : OneRecord
one_record = record { written = written_back; read = read_back; one = same_record_lem }

-- whatever is done with the orders of a list can be done with the bodies of its record: with `journal`'s `run`, from the table at
-- the mark, it gives the present table
pub replayed : {T : Type 0} (run : List (List ℕ) → T) (os : List (List ℕ)) → Limits os → run (bodies_of (record_of os)) ≡ run os
replayed run os m = ap run (bodies_back os m)
