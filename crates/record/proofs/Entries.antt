-- Laws of a table of contents: its entries, their parts, and what the tests say of them. Assumes nothing.
use mathlib.Core.Path.{◌≡◌, refl, ap, ◌∙◌}
use mathlib.Core.Bool.{true, false}
use mathlib.Core.List.{List, [], ◌∷◌}
use Prim.Native.Nat.{ℕ, zero, suc, ◌+◌, ◌*◌, ◌-◌, ◌≤◌, ◌<◌}
use native.Mathlib.Omega.{arith}
use lib.Dec.{eqb, ltb}
use lib.ListN.{length, get_or, drop, length-append, length-map}
use borrow.Author.Tests.{le-ltb, ltb-false, eqb-true}
use Rattle.wire.specs.Numbers.{num_at, put_all, total}
use Rattle.wire.specs.Parts.{slice}
use Rattle.wire.proofs.Tests.{both_left, both_right, either_left, either_right}
use Rattle.wire.proofs.Numbers.{num_drop, length_put}
use Rattle.record.specs.declared.Entry.{Entry}
use Rattle.record.specs.Layout.{entry, table_of}
use Rattle.record.specs.Reading.{entries_from, past_end, sizes_in, placed_from, part_of, parts_of, contents_of, count_in}

-- ---- the entries of a table

pub length_entries : (n p : ℕ) (r : List ℕ) → length (entries_from n p r) ≡ n
unfolding entries_from
length_entries zero p r = refl
length_entries (suc n) p r = ap suc (length_entries n (p + 8) r)

-- the entries do not depend on what stands before them
pub entries_drop : (n a p : ℕ) (r : List ℕ) → entries_from n p (drop a r) ≡ entries_from n (a + p) r
unfolding entries_from
entries_drop zero a p r = refl
entries_drop (suc n) a p r =
    let e : a + (p + 4) ≡ a + p + 4 = omega arith in
    let f : a + (p + 8) ≡ a + p + 8 = omega arith in
    rw (num_drop 4 a p r, num_drop 4 a (p + 4) r, entries_drop n a (p + 8) r, e, f)

-- the entry at index i, and those after it
pub entries_next : (n i : ℕ) (r : List ℕ) → i < n
    → entries_from (n - i) (2 + 8 * i) r ≡ entry (num_at 4 r (2 + 8 * i)) (num_at 4 r (2 + 8 * i + 4)) ∷ entries_from (n - (i + 1)) (2 + 8 * (i + 1)) r
unfolding entries_from
entries_next n i r h =
    let e : n - i ≡ suc (n - (i + 1)) = omega arith in
    let f : 2 + 8 * i + 8 ≡ 2 + 8 * (i + 1) = omega arith in
    rw (e, f)

pub entries_at : (n i p : ℕ) (r : List ℕ) (d : Entry) → i < n → get_or (entries_from n p r) i d ≡ entry (num_at 4 r (p + 8 * i)) (num_at 4 r (p + 8 * i + 4))
unfolding entries_from
entries_at zero i p r d h = absurd (omega arith)
entries_at (suc n) zero p r d h = let e : p + 8 * 0 ≡ p = omega arith in rw e
entries_at (suc n) (suc i) p r d h =
    let e : p + 8 + 8 * i ≡ p + 8 * suc i = omega arith in
    rw (entries_at n i (p + 8) r d (omega arith), e)

-- ---- the tests on entries

pub past_first : (n : ℕ) (e : Entry) (es : List Entry) → past_end n (e ∷ es) ≡ false → e.offset + e.size ≤ n
unfolding past_end
past_first n e es h = ltb-false n (e.offset + e.size) (either_left (ltb n (e.offset + e.size)) (past_end n es) h)

pub past_rest : (n : ℕ) (e : Entry) (es : List Entry) → past_end n (e ∷ es) ≡ false → past_end n es ≡ false
unfolding past_end
past_rest n e es h = either_right (ltb n (e.offset + e.size)) (past_end n es) h

pub placed_first : (p : ℕ) (e : Entry) (es : List Entry) → placed_from p (e ∷ es) ≡ true → e.offset ≡ p
unfolding placed_from
placed_first p e es h = eqb-true e.offset p (both_left (eqb e.offset p) (placed_from (p + e.size) es) h)

pub placed_rest : (p : ℕ) (e : Entry) (es : List Entry) → placed_from p (e ∷ es) ≡ true → placed_from (p + e.size) es ≡ true
unfolding placed_from
placed_rest p e es h = both_right (eqb e.offset p) (placed_from (p + e.size) es) h

-- bodies that touch and lie within end within
pub placed_within : (n p : ℕ) (es : List Entry) → p ≤ n → placed_from p es ≡ true → past_end n es ≡ false → p + sizes_in es ≤ n
unfolding sizes_in
placed_within n p [] h pl pa = omega arith
placed_within n p (e ∷ es) h pl pa =
    let o = placed_first p e es pl in
    let w = past_first n e es pa in
    omega (arith, placed_within n (p + e.size) es (omega arith) (placed_rest p e es pl) (past_rest n e es pa))

-- each lies within; so does none
pub within_at : (n : ℕ) (es : List Entry) (i : ℕ) → past_end n es ≡ false → (get_or es i (entry 0 0)).offset + (get_or es i (entry 0 0)).size ≤ n
within_at n [] i h = omega arith
within_at n (e ∷ es) zero h = past_first n e es h
within_at n (e ∷ es) (suc i) h = within_at n es i (past_rest n e es h)

-- ---- the part of an entry

pub part_within : (r : List ℕ) (e : Entry) → e.offset + e.size ≤ length r → part_of r e ≡ slice r e.offset e.size
unfolding part_of
part_within r e h = rw (le-ltb (length r) (e.offset + e.size) h)

pub length_parts : (r : List ℕ) → length (parts_of r) ≡ count_in r
unfolding parts_of
length_parts r = length-map (contents_of r) (part_of r) ∙ length_entries (count_in r) 2 r

pub length_table : (es : List Entry) → length (table_of es) ≡ 8 * length es
unfolding table_of total
length_table [] = refl
length_table (e ∷ es) =
    length-append (put_all (4 ∷ 4 ∷ []) (e.offset ∷ e.size ∷ [])) (table_of es)
    ∙ let l : length (put_all (4 ∷ 4 ∷ []) (e.offset ∷ e.size ∷ [])) ≡ 8 = length_put (4 ∷ 4 ∷ []) (e.offset ∷ e.size ∷ []) in
    omega (arith, l, length_table es)
