-- Marks of the ids that stood: those that stood with one mark stand from its first slot on. Assumes nothing.
use mathlib.Core.Path.{◌≡◌, refl, sym, ap, ◌∙◌}
use mathlib.Core.Bool.{Bool, true, false}
use mathlib.Core.List.{List}
use Prim.Native.Nat.{ℕ, ◌+◌, ◌*◌, ◌/◌, ◌%◌, ◌-◌, ◌≤◌, ◌<◌}
use native.Mathlib.Omega.{arith}
use lib.Dec.{eqb, leb}
use lib.ListN.{length, get_or, set, take, drop, replicate, length-set, length-replicate}
use lib.Seq.{get_or-set_same, get_or-set_other}
use borrow.Author.Tests.{eqb-true, eqb-false, eq-eqb, ne_eqb, leb-true, leb-false, le-ltb, lt-ltb}
use Rattle.std.specs.Prelude.{Option, Some, None, is_some, not}
use Rattle.wire.specs.Tests.{both}
use Rattle.wire.proofs.Tests.{both_left, never}
use Rattle.wire.specs.Numbers.{num_at}
use Rattle.wire.specs.Parts.{slice}
use Rattle.wire.proofs.Numbers.{num1_is, num_slice, num_zeros}
use Rattle.places.specs.Counts.{first_from, on_found}
use Rattle.places.proofs.Counting.{found, none_passes, found_first, first_is}
use Rattle.slots.specs.Slots.{used_at, first_id, second_id, is_used, is_at}
use Rattle.slots.specs.Sound.{no_pointers, slot_ok, mark_of, Seen}
use Rattle.slots.proofs.Soundness.{at_has, at_own, used_is, used_has, slot_used}

pub mark_is : (a b : ℕ) → ((a * 0x61C88647 + b * 0x045D9F3B) / 16777216 % 256 ≡ mark_of a b) × ((a * 0x61C88647 + b * 0x045D9F3B) / 16777216 % 256 < 256)
unfolding mark_of
mark_is a b = (refl, omega arith)

-- the numbers of a slot by its own bytes
pub first_lent : (x : List ℕ) (i n : ℕ) {v : ℕ} → n ≡ 9 → v ≡ num_at 4 (take n (drop (157 + 9 * i) x)) 1 → v ≡ first_id x i
unfolding slice first_id
first_lent x i n f e = e ∙ num_slice 4 x (157 + 9 * i) n 1 (omega (arith, f))

pub second_lent : (x : List ℕ) (i n : ℕ) {v : ℕ} → n ≡ 9 → v ≡ num_at 4 (take n (drop (157 + 9 * i) x)) 5 → v ≡ second_id x i
unfolding slice second_id
second_lent x i n f e = e ∙ num_slice 4 x (157 + 9 * i) n 5 (omega (arith, f))

pub used_lent : (x : List ℕ) (i : ℕ) → get_or x (157 + 9 * i) 0 ≡ used_at x i
unfolding used_at
used_lent x i = num1_is x (157 + 9 * i)

pub none_seen : (x : List ℕ) (first : ℕ) → Seen (replicate 256 0) x first first
none_seen x first =
    record {
      long = length-replicate {A = ℕ} 256 0;
      within = λ k n. absurd (n (num1_is (replicate 256 0) k ∙ num_zeros 1 256 k));
      marked = λ j l u t. absurd (omega arith);
    }

module _ (seen x : List ℕ) (first i : ℕ) (s : Seen seen x first i) where
  abbrev mark : ℕ → ℕ
  mark j = mark_of (first_id x j) (second_id x j)

  -- a slot without a record
  pub seen_free : used_at x i ≡ 0 → Seen seen x first (i + 1)
  seen_free e =
      record {
        long = s.long;
        within = λ k n. let w = s.within k n in (w.0, omega (arith, w.1));
        marked = λ j l u t. go (eqb j i) refl l u t;
      }
    where
      go : (b : Bool) {j : ℕ} → eqb j i ≡ b → first ≤ j → j < i + 1 → is_used x j ≡ true
          → (get_or seen (mark j) 0 ≡ 0 → ⊥) × (get_or seen (mark j) 0 ≤ j + 1)
      go true {j} m l u t =
          let y : j ≡ i = eqb-true j i m in
          let z : used_at x i ≡ 1 = ap (used_at x) (sym y) ∙ used_has x j t in
          absurd (omega arith)
      go false {j} m l u t =
          let y : (j ≡ i → ⊥) = eqb-false j i m in
          s.marked j l (omega (arith, y)) t

  module _ (low : first ≤ i) (u : used_at x i ≡ 1) {a b mk : ℕ} (k : a ≡ first_id x i) (l : b ≡ second_id x i) (em : mk ≡ mark_of a b) where
    own : mk ≡ mark i
    own = em ∙ ap (λ (z : ℕ). mark_of z b) k ∙ ap (mark_of (first_id x i)) l

    -- ids that stood before have their mark
    stood : (j : ℕ) → first ≤ j → j < i → is_at x (first_id x i) (second_id x i) j ≡ true
        → (get_or seen mk 0 ≡ 0 → ⊥) × (get_or seen mk 0 ≤ j + 1)
    stood j p q t =
        let h = at_has x (first_id x i) (second_id x i) j t in
        let m = s.marked j p q (used_is x j h.used) in
        let e : mark j ≡ mk = ap (λ (z : ℕ). mark_of z (second_id x j)) h.first ∙ ap (mark_of (first_id x i)) h.second ∙ sym own in
        ((λ z. m.0 (ap (λ (n : ℕ). get_or seen n 0) e ∙ z)), rw (← e) m.1)

    -- none stood, so this slot is the first
    good : (count top : ℕ) → i < first + count → b ≤ top → ((j : ℕ) → first ≤ j → j < i → is_at x (first_id x i) (second_id x i) j ≡ false)
        → slot_ok x first count top i ≡ true
    good count top high small none =
        slot_used x first count top i u
        (record { second = rw (← l) small; first_is = first_is count first (is_at x (first_id x i) (second_id x i)) i low high (at_own x i u) none })

    pub first_seen : (count top : ℕ) → i < first + count → b ≤ top → get_or seen mk 0 ≡ 0 → true ≡ slot_ok x first count top i
    first_seen count top high small e = sym (good count top high small (λ j p q. go (is_at x (first_id x i) (second_id x i) j) refl p q))
      where
        go : (t : Bool) {j : ℕ} → is_at x (first_id x i) (second_id x i) j ≡ t → first ≤ j → j < i → is_at x (first_id x i) (second_id x i) j ≡ false
        go false t p q = t
        go true {j} t p q = absurd ((stood j p q t).0 e)

    pub seen_set : get_or seen mk 0 ≡ 0 → mk < 256 → Seen (set seen mk (i + 1)) x first (i + 1)
    seen_set zero inside =
        record {
          long = length-set seen mk (i + 1) ∙ s.long;
          within = λ n. values n (eqb n mk) refl;
          marked = λ j p q t. go (eqb j i) refl p q t;
        }
      where
        fits : mk < length seen
        fits = omega (arith, s.long)

        here : get_or (set seen mk (i + 1)) mk 0 ≡ i + 1
        here = get_or-set_same seen mk (i + 1) 0 fits

        values : (n : ℕ) (t : Bool) → eqb n mk ≡ t → (get_or (set seen mk (i + 1)) n 0 ≡ 0 → ⊥)
            → (first < get_or (set seen mk (i + 1)) n 0) × (get_or (set seen mk (i + 1)) n 0 ≤ i + 1)
        values n true e ne = rw (eqb-true n mk e, here) (omega arith, omega arith)
        values n false e ne =
            let o = get_or-set_other seen mk n (i + 1) 0 (eqb-false n mk e) in
            let w = s.within n (λ z. ne (o ∙ z)) in
            rw o (w.0, omega (arith, w.1))

        go : (t : Bool) {j : ℕ} → eqb j i ≡ t → first ≤ j → j < i + 1 → is_used x j ≡ true
            → (get_or (set seen mk (i + 1)) (mark j) 0 ≡ 0 → ⊥) × (get_or (set seen mk (i + 1)) (mark j) 0 ≤ j + 1)
        go true {j} e p q used =
            let y : j ≡ i = eqb-true j i e in
            let o : mark j ≡ mk = ap (λ (n : ℕ). mark_of (first_id x n) (second_id x n)) y ∙ sym own in
            let v : get_or (set seen mk (i + 1)) (mark j) 0 ≡ i + 1 = ap (λ (n : ℕ). get_or (set seen mk (i + 1)) n 0) o ∙ here in
            ((λ z. omega (arith, v, z)), omega (arith, v, y))
        go false {j} e p q used =
            let y : (j ≡ i → ⊥) = eqb-false j i e in
            let old = s.marked j p (omega (arith, y)) used in
            let ne : (mark j ≡ mk → ⊥) = λ z. old.0 (ap (λ (n : ℕ). get_or seen n 0) z ∙ zero) in
            let o = get_or-set_other seen mk (mark j) (i + 1) 0 ne in
            ((λ z. old.0 (sym o ∙ z)), rw o old.1)

    module _ (there : get_or seen mk 0 ≡ 0 → ⊥) where
      pub seen_kept : Seen seen x first (i + 1)
      seen_kept =
          record {
            long = s.long;
            within = λ n ne. let w = s.within n ne in (w.0, omega (arith, w.1));
            marked = λ j p q t. go (eqb j i) refl p q t;
          }
        where
          go : (t : Bool) {j : ℕ} → eqb j i ≡ t → first ≤ j → j < i + 1 → is_used x j ≡ true
              → (get_or seen (mark j) 0 ≡ 0 → ⊥) × (get_or seen (mark j) 0 ≤ j + 1)
          go true {j} e p q used =
              let y : j ≡ i = eqb-true j i e in
              let o : mark j ≡ mk = ap (λ (n : ℕ). mark_of (first_id x n) (second_id x n)) y ∙ sym own in
              let w = s.within mk there in
              let v : get_or seen (mark j) 0 ≡ get_or seen mk 0 = ap (λ (n : ℕ). get_or seen n 0) o in
              ((λ z. there (sym v ∙ z)), omega (arith, v, w.1, y))
          go false {j} e p q used =
              let y : (j ≡ i → ⊥) = eqb-false j i e in
              s.marked j p (omega (arith, y)) used

      -- where the slots from the first with the mark on have other ids
      pub later_seen : (count top : ℕ) → i < first + count → b ≤ top
          → first_from (i - (get_or seen mk 0 - 1)) (get_or seen mk 0 - 1) (is_at x a b) ≡ None → true ≡ slot_ok x first count top i
      later_seen count top high small e = sym (good count top high small (λ j p q. go j p q (leb (get_or seen mk 0 - 1) j) refl))
        where
          early : (j : ℕ) → first ≤ j → j < i → j < get_or seen mk 0 - 1 → (t : Bool) → is_at x (first_id x i) (second_id x i) j ≡ t
              → is_at x (first_id x i) (second_id x i) j ≡ false
          early j p q m false t = t
          early j p q m true t = let w = (stood j p q t).1 in absurd (omega arith)

          go : (j : ℕ) → first ≤ j → j < i → (t : Bool) → leb (get_or seen mk 0 - 1) j ≡ t → is_at x (first_id x i) (second_id x i) j ≡ false
          go j p q true m =
              let o = leb-true (get_or seen mk 0 - 1) j m in
              rw (← k, ← l) (none_passes (i - (get_or seen mk 0 - 1)) (get_or seen mk 0 - 1) (is_at x a b) e j o (omega arith))
          go j p q false m = early j p q (leb-false (get_or seen mk 0 - 1) j m) (is_at x (first_id x i) (second_id x i) j) refl

      -- where one of them has these
      pub stood_twice : (count top : ℕ) → b ≤ top → {n : ℕ}
          → first_from (i - (get_or seen mk 0 - 1)) (get_or seen mk 0 - 1) (is_at x a b) ≡ Some n → false ≡ slot_ok x first count top i
      unfolding slot_ok
      stood_twice count top small {n} e =
          let r = found (i - (get_or seen mk 0 - 1)) (get_or seen mk 0 - 1) (is_at x a b) n e in
          let w = s.within mk there in
          let lo : first ≤ n = omega (arith, r.0, w.0) in
          let hi : n < i = omega (arith, r.1, w.1) in
          let small-second : second_id x i ≤ top = rw (← l) small in
          rw (u, le-ltb top (second_id x i) small-second, ← k, ← l) (go (first_from count first (is_at x a b)) refl lo hi r.2)
        where
          go : (w : Option ℕ) → first_from count first (is_at x a b) ≡ w → first ≤ n → n < i → is_at x a b n ≡ true → false ≡ on_found w false (λ j. eqb j i)
          go None m lo hi t = refl
          go (Some j) m lo hi t = sym (ne_eqb j i (λ z. never (sym (found_first count first (is_at x a b) j m n lo (omega arith)) ∙ t)))

      -- what the search among them found tells, and the marks stay
      pub told_by_search : (count top : ℕ) → i < first + count → b ≤ top → (w : Option ℕ) {r : Bool}
          → first_from (i - (get_or seen mk 0 - 1)) (get_or seen mk 0 - 1) (is_at x a b) ≡ w → is_some w ≡ not r
          → (r ≡ slot_ok x first count top i) × (r ≡ true → Seen seen x first (i + 1))
      told_by_search count top high small None {r = true} e t = (later_seen count top high small e, λ z. seen_kept)
      told_by_search count top high small None {r = false} e t = never t
      told_by_search count top high small (Some n) {r = true} e t = never (sym t)
      told_by_search count top high small (Some n) {r = false} e t = (stood_twice count top small e, λ z. never z)

-- ---- the other ways through a slot

module _ (x : List ℕ) (first count top i : ℕ) {u : ℕ} (e : u ≡ used_at x i) where
  slot_empty : u ≡ 0 → {r : Bool} → r ≡ no_pointers x i → r ≡ slot_ok x first count top i
  unfolding slot_ok
  slot_empty h g = rw (← e, eq-eqb u 0 h) g

  slot_unmarked : (u ≡ 0 → ⊥) → (u ≡ 1 → ⊥) → false ≡ slot_ok x first count top i
  unfolding slot_ok
  slot_unmarked h g = rw (← e, ne_eqb u 0 h, ne_eqb u 1 g)

  pub slot_high : u ≡ 1 → {b : ℕ} → b ≡ second_id x i → top < b → false ≡ slot_ok x first count top i
  unfolding slot_ok
  slot_high g {b} l m = rw (← e, ne_eqb u 0 (λ z. omega (arith, g, z)), eq-eqb u 1 g, ← l, lt-ltb top b m)

  -- no record, so no pointers either; and the marks serve the next slot too
  module _ {r : Bool} (f : r ≡ both (eqb u 0) (no_pointers x i)) where
    pub slot_free : (u ≡ 1 → ⊥) → r ≡ slot_ok x first count top i
    slot_free g = go (eqb u 0) refl f
      where
        go : (t : Bool) → eqb u 0 ≡ t → r ≡ both t (no_pointers x i) → r ≡ slot_ok x first count top i
        go true q k = slot_empty (eqb-true u 0 q) k
        go false q k = k ∙ slot_unmarked (eqb-false u 0 q) g

    pub none_used : r ≡ true → used_at x i ≡ 0
    none_used t = sym e ∙ eqb-true u 0 (both_left (eqb u 0) (no_pointers x i) (sym f ∙ t))
