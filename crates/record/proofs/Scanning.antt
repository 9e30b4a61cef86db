-- One pass over the table of contents decides a record's number. Assumes nothing.
use mathlib.Core.Path.{◌≡◌, refl, sym, ap, ◌∙◌}
use mathlib.Core.Bool.{Bool, true, false, not}
use mathlib.Core.List.{List, ◌∷◌}
use Prim.Native.Nat.{ℕ, ◌+◌, ◌*◌, ◌-◌, ◌≤◌, ◌<◌}
use native.Mathlib.Omega.{arith}
use lib.Dec.{eqb, ltb}
use lib.ListN.{length}
use borrow.Author.Tests.{lt-ltb, le-ltb}
use Rattle.wire.specs.Tests.{pick, both, either}
use Rattle.wire.specs.Numbers.{num_at}
use Rattle.journal.specs.Limits.{most_bytes, most_orders}
use Rattle.record.specs.Layout.{entry, head_of}
use Rattle.record.specs.Reading.{count_in, entries_from, contents_of, past_end, sizes_in, placed_from, cut_short, irregular, record_number}
use Rattle.record.proofs.Entries.{entries_next}

-- i of c entries are read, all of them within: end is where the bodies would end, and placed whether their offsets are the layout's
pub record Scanned (r : List ℕ) (c i end : ℕ) (placed : Bool) : Type 0 where
  pub past : past_end (length r) (contents_of r) ≡ past_end (length r) (entries_from (c - i) (2 + 8 * i) r)
  pub sizes : head_of c + sizes_in (contents_of r) ≡ end + sizes_in (entries_from (c - i) (2 + 8 * i) r)
  pub places : placed_from (head_of c) (contents_of r) ≡ both placed (placed_from end (entries_from (c - i) (2 + 8 * i) r))

module _ (r : List ℕ) where
  pub scan_start : (c : ℕ) → c ≡ count_in r → Scanned r c 0 (2 + 8 * c) true
  scan_start c e = let z : c - 0 ≡ c = omega arith in record { past = rw (z, e); sizes = rw (z, e); places = rw (z, e) }

  both_assoc : (a b d : Bool) → both a (both b d) ≡ both (both a b) d
  both_assoc true b d = refl
  both_assoc false b d = refl

  -- the next entry
  pub scan_turn : (c i end : ℕ) (placed : Bool) (o s : ℕ) → i < c → o ≡ num_at 4 r (2 + 8 * i) → s ≡ num_at 4 r (2 + 8 * i + 4) → o + s ≤ length r
      → Scanned r c i end placed → Scanned r c (i + 1) (end + s) (both placed (eqb o end))
  unfolding past_end sizes_in placed_from
  scan_turn c i end placed o s h eo es w g =
      let e : entries_from (c - i) (2 + 8 * i) r ≡ entry o s ∷ entries_from (c - (i + 1)) (2 + 8 * (i + 1)) r = rw (eo, es) (entries_next c i r h) in
      let t = entries_from (c - (i + 1)) (2 + 8 * (i + 1)) r in
      let n : sizes_in (entries_from (c - i) (2 + 8 * i) r) ≡ s + sizes_in t = ap sizes_in e in
      record {
        past = g.past ∙ rw (e, le-ltb (length r) (o + s) w);
        sizes = g.sizes ∙ omega (arith, n);
        places = g.places ∙ rw e (both_assoc placed (eqb o end) (placed_from (end + s) t));
      }

  -- an entry that reaches past the end
  pub scan_cut : (c i end : ℕ) (placed : Bool) (o s : ℕ) → i < c → o ≡ num_at 4 r (2 + 8 * i) → s ≡ num_at 4 r (2 + 8 * i + 4) → length r < o + s
      → Scanned r c i end placed → 18 ≡ record_number r
  unfolding past_end record_number cut_short
  scan_cut c i end placed o s h eo es w g =
      let e : entries_from (c - i) (2 + 8 * i) r ≡ entry o s ∷ entries_from (c - (i + 1)) (2 + 8 * (i + 1)) r = rw (eo, es) (entries_next c i r h) in
      let p : past_end (length r) (contents_of r) ≡ true = g.past ∙ rw (e, lt-ltb (length r) (o + s) w) in
      rw p (last (either (ltb (length r) 2) (ltb (length r) (head_of (count_in r)))))
    where
      last : (a : Bool) → ◌≡◌ {A = ℕ} 18 (pick (either a true) 18 (pick (irregular r) 19 0))
      last true = refl
      last false = refl

  -- all entries are read
  pub scan_end : (c i end : ℕ) (placed t : Bool) → c ≡ count_in r → head_of c ≤ length r → c ≤ i → Scanned r c i end placed
      → either (either (either (ltb most_orders c) (ltb most_bytes (end - (2 + 8 * c)))) (not placed)) (ltb end (length r)) ≡ t → pick t 19 0 ≡ record_number r
  unfolding entries_from past_end sizes_in placed_from record_number cut_short irregular
  scan_end c i end placed t e h l g f =
      let z : c - i ≡ 0 = omega arith in
      let past : past_end (length r) (contents_of r) ≡ false = g.past ∙ rw z in
      let n : sizes_in (entries_from (c - i) (2 + 8 * i) r) ≡ 0 = rw z in
      let sizes : head_of c + sizes_in (contents_of r) ≡ end = g.sizes ∙ omega (arith, n) in
      let size : sizes_in (contents_of r) ≡ end - (2 + 8 * c) = omega arith in
      let places : placed_from (head_of c) (contents_of r) ≡ placed = g.places ∙ rw z (both_true placed) in
      let two : ltb (length r) 2 ≡ false = le-ltb (length r) 2 (omega arith) in
      let head : ltb (length r) (head_of (count_in r)) ≡ false = le-ltb (length r) (head_of (count_in r)) (omega arith) in
      let sizes' : head_of (count_in r) + sizes_in (contents_of r) ≡ end = omega arith in
      let places' : placed_from (head_of (count_in r)) (contents_of r) ≡ placed = ap (λ (k : ℕ). placed_from (head_of k) (contents_of r)) (sym e) ∙ places in
      rw (past, two, head, sizes', size, places', ← e, f)
    where
      both_true : (a : Bool) → both a true ≡ a
      both_true true = refl
      both_true false = refl

  -- fewer bytes than the count, or than the table of contents
  pub short_count : length r < 2 → 18 ≡ record_number r
  unfolding record_number cut_short
  short_count h = rw (lt-ltb (length r) 2 h)

  pub short_table : (c : ℕ) → c ≡ count_in r → length r < 2 + 8 * c → 18 ≡ record_number r
  unfolding record_number cut_short
  short_table c e h = rw (← e, lt-ltb (length r) (head_of c) h) (cut (ltb (length r) 2))
    where
      cut : (a : Bool) → ◌≡◌ {A = ℕ} 18 (pick (either (either a true) (past_end (length r) (entries_from c 2 r))) 18 (pick (irregular r) 19 0))
      cut true = refl
      cut false = refl
