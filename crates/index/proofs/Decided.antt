-- Two memories that list the same records and share the same describe one index: no slot and no place is left in it. Assumes nothing.
use mathlib.Core.Path.{◌≡◌, refl, sym, ap, ◌∙◌}
use mathlib.Core.Bool.{Bool, true, false, not}
use mathlib.Core.List.{List}
use Prim.Native.Nat.{ℕ, zero, suc, ◌+◌, ◌*◌, ◌/◌, ◌%◌, ◌-◌, ◌≤◌, ◌<◌}
use native.Mathlib.Omega.{arith}
use lib.Dec.{eqb, ltb, leb}
use borrow.Author.Tests.{eqb-true, eqb-false, eq-eqb, ne_eqb, ltb-true, ltb-false, leb-true, leb-false, not-true}
use Rattle.std.specs.Prelude.{Option, Some, None}
use Rattle.wire.specs.Tests.{pick, both}
use Rattle.wire.proofs.Tests.{both_left, both_right, never}
use Rattle.places.specs.declared.Family.{Family}
use Rattle.places.specs.declared.Family.TheVariants.{Windows, Notifications}
use Rattle.places.specs.Counts.{one, count_below, first_from, on_found}
use Rattle.places.specs.Memory.{places_of, pointer_at, count_at, is_free, shares_of, used_of, sharing_of, decode}
use Rattle.places.specs.Keyed.{keyed}
use Rattle.places.specs.Holder.{Holder, cell, icon, number_of}
use Rattle.places.proofs.Bytes.{outside}
use Rattle.places.proofs.Counting.{found, none_passes, count_change, count_none}
use Rattle.places.proofs.Named.{Slots, same_holder_lem, own_cell, own_icon, cell_number_lem, icon_number_lem}
use Rattle.places.proofs.Pointers.{free_is, taken_is, counted}
use Rattle.places.proofs.Steps.{equal_sharing}
use Rattle.places.proofs.Validity.{valid_has}
use Rattle.slots.specs.Families.{start, capacity}
use Rattle.slots.specs.Slots.{first_id, second_id, is_used, is_at, slot_of, many_in}
use Rattle.slots.specs.Sound.{sound_index}
use Rattle.slots.proofs.Soundness.{Within, found_within, at_has, at_own, used_is, used_has, Sound, sound_has, one_slot, free_pointers, slots_of}
use Rattle.index.specs.Memory.{index_of}
use Rattle.index.proofs.Shared.{sharing_at}
use Rattle.index.proofs.After.{same_index}

-- where each number below n that passes p goes to one of its own below m that passes q, as many pass q
count_into : (n m : ℕ) (p q : ℕ → Bool) (to : ℕ → ℕ) → ((j : ℕ) → j < n → p j ≡ true → (to j < m) × (q (to j) ≡ true))
    → ((j k : ℕ) → j < n → k < n → p j ≡ true → p k ≡ true → to j ≡ to k → j ≡ k) → count_below n p ≤ count_below m q
unfolding count_below
count_into zero m p q to into apart = omega arith
count_into (suc n) m p q to into apart =
    go (p n) refl (λ r f. count_into n m p r to f (λ j k l u. apart j k (omega arith) (omega arith)))
  where
    go : (t : Bool) → p n ≡ t → ((r : ℕ → Bool) → ((j : ℕ) → j < n → p j ≡ true → (to j < m) × (r (to j) ≡ true)) → count_below n p ≤ count_below m r)
        → count_below n p + one t ≤ count_below m q
    go false e ih = let h = ih q (λ j l t. into j (omega arith) t) in omega arith
    go true e ih =
        let last = into n (omega arith) e in
        let h = ih (λ j. both (q j) (not (eqb j (to n)))) (λ j l t. let f = into j (omega arith) t in (f.0, others j l t f.1)) in
        let c = count_change m q (λ j. both (q j) (not (eqb j (to n)))) (to n) last.0 (λ j u ne. other (q j) (eqb j (to n)) (ne_eqb j (to n) ne)) in
        let d : count_below m (λ j. both (q j) (not (eqb j (to n)))) + one true ≡ count_below m q + one (both true (not true)) =
        rw (last.1, eq-eqb (to n) (to n) refl) at c in
        omega arith
      where
        other : (u v : Bool) → v ≡ false → both u (not v) ≡ u
        other true true w = never (sym w)
        other true false w = refl
        other false v w = refl

        others : (j : ℕ) → j < n → p j ≡ true → q (to j) ≡ true → both (q (to j)) (not (eqb (to j) (to n))) ≡ true
        others j l t f = rw (f, ne_eqb (to j) (to n) (λ z. let y : j ≡ n = apart j n (omega arith) (omega arith) t e z in omega arith))

-- ---- names of holders

abbrev family_at : ℕ → Family
family_at i = pick (ltb i 32) Windows Notifications

within_at : (i : ℕ) → i < 48 → Within (family_at i) i
within_at i l = go (ltb i 32) refl
  where
    go : (t : Bool) → ltb i 32 ≡ t → Within (pick t Windows Notifications) i
    go true e = record { low = omega arith; high = omega (arith, ltb-true i 32 e) }
    go false e = record { low = ltb-false i 32 e; high = omega arith }

-- the holder of a number
abbrev name_of : List ℕ → ℕ → Holder
name_of x h = pick (ltb h 12) (cell h) (icon (family_at ((h - 12) / 3)) (first_id x ((h - 12) / 3)) (second_id x ((h - 12) / 3)) ((h - 12) % 3))

named : (x : List ℕ) → Sound x → (h : ℕ) → (pointer_at x h ≡ 0 → ⊥) → number_of (slot_of x) (name_of x h) ≡ h
named x s h pos = go (ltb h 12) refl
  where
    small : h < 156
    small = low (leb 156 h) refl
      where
        low : (t : Bool) → leb 156 h ≡ t → h < 156
        low true e = absurd (pos (outside x h (leb-true 156 h e)))
        low false e = leb-false 156 h e

    listed : 12 ≤ h → is_used x ((h - 12) / 3) ≡ true
    listed l = tell (is_used x ((h - 12) / 3)) refl
      where
        tell : (t : Bool) → is_used x ((h - 12) / 3) ≡ t → is_used x ((h - 12) / 3) ≡ true
        tell true e = e
        tell false e =
            let k = small in
            let m : h ≡ 12 + 3 * ((h - 12) / 3) + (h - 12) % 3 = omega arith in
            let z = free_pointers x s (family_at ((h - 12) / 3)) ((h - 12) / 3) (within_at ((h - 12) / 3) (omega arith)) e ((h - 12) % 3) (omega arith) in
            absurd (pos (ap (pointer_at x) m ∙ z))

    go : (t : Bool) → ltb h 12 ≡ t
        → number_of (slot_of x) (pick t (cell h) (icon (family_at ((h - 12) / 3)) (first_id x ((h - 12) / 3)) (second_id x ((h - 12) / 3)) ((h - 12) % 3))) ≡ h
    go true e = cell_number_lem (slot_of x) (slots_of x) h (ltb-true h 12 e)
    go false e =
        let l = ltb-false h 12 e in
        let k = small in
        let m : 12 + 3 * ((h - 12) / 3) + (h - 12) % 3 ≡ h = omega arith in
        let u = used_has x ((h - 12) / 3) (listed l) in
        let at_i = one_slot x s (family_at ((h - 12) / 3)) (first_id x ((h - 12) / 3)) (second_id x ((h - 12) / 3)) ((h - 12) / 3) (within_at ((h - 12) / 3) (omega arith)) (at_own x ((h - 12) / 3) u) in
        icon_number_lem (slot_of x) (slots_of x) (family_at ((h - 12) / 3)) (first_id x ((h - 12) / 3)) (second_id x ((h - 12) / 3)) ((h - 12) % 3) ((h - 12) / 3) at_i (omega arith) ∙ m

-- a holder that is kept has a number of its own
one_holder : (slot : Family → ℕ → ℕ → Option ℕ) → Slots slot → (g h : Holder) → number_of slot g ≡ number_of slot h → number_of slot h < 156 → g ≡ h
unfolding number_of
one_holder slot slots g (cell c) e l = go (ltb c 12) refl l
  where
    go : (t : Bool) → ltb c 12 ≡ t → pick t c 156 < 156 → g ≡ cell c
    go true m k = same_holder_lem g (cell c) (sym (own_cell slot slots c (ltb-true c 12 m) g) ∙ eq-eqb (number_of slot g) (number_of slot (cell c)) e)
    go false m k = absurd (omega arith)
one_holder slot slots g (icon f a b w) e l = go (slot f a b) (ltb w 3) refl refl l
  where
    go : (v : Option ℕ) (t : Bool) → slot f a b ≡ v → ltb w 3 ≡ t → on_found v 156 (λ i. pick t (12 + 3 * i + w) 156) < 156 → g ≡ icon f a b w
    go (Some i) true m n k = same_holder_lem g (icon f a b w) (sym (own_icon slot slots f a b w i m (ltb-true w 3 n) g) ∙ eq-eqb (number_of slot g) (number_of slot (icon f a b w)) e)
    go (Some i) false m n k = absurd (omega arith)
    go None t m n k = absurd (omega arith)

-- ---- who shares

shares_is : (x : List ℕ) (g k : Holder) → (sharing_at x).shares g k ≡ shares_of (pointer_at x) (number_of (slot_of x) g) (number_of (slot_of x) k)
unfolding keyed decode sharing_of
shares_is x g k = refl

shares_has : (a b : ℕ) → both (not (eqb a 0)) (eqb a b) ≡ true → (a ≡ 0 → ⊥) × (a ≡ b)
shares_has a b e = (eqb-false a 0 (not-true (eqb a 0) (both_left (not (eqb a 0)) (eqb a b) e)), eqb-true a b (both_right (not (eqb a 0)) (eqb a b) e))

shares_make : (a b : ℕ) → (a ≡ 0 → ⊥) → a ≡ b → both (not (eqb a 0)) (eqb a b) ≡ true
shares_make a b pos e = rw (ne_eqb a 0 pos, eq-eqb a b e)

module _ (x y : List ℕ) (sx : Sound x) (sy : Sound y) (places : places_of x ≡ places_of y)
    (same : (g k : Holder) → (sharing_at x).shares g k ≡ (sharing_at y).shares g k) where
  -- the number in y of the holder with number h in x
  abbrev to : ℕ → ℕ
  to h = number_of (slot_of y) (name_of x h)

  -- holders at one place in x are at one place in y
  over : (g k : Holder) → (pointer_at x (number_of (slot_of x) g) ≡ 0 → ⊥) → pointer_at x (number_of (slot_of x) g) ≡ pointer_at x (number_of (slot_of x) k)
      → (pointer_at y (number_of (slot_of y) g) ≡ 0 → ⊥) × (pointer_at y (number_of (slot_of y) g) ≡ pointer_at y (number_of (slot_of y) k))
  over g k pos e =
      shares_has (pointer_at y (number_of (slot_of y) g)) (pointer_at y (number_of (slot_of y) k))
      (sym (shares_is y g k) ∙ sym (same g k) ∙ shares_is x g k ∙ shares_make (pointer_at x (number_of (slot_of x) g)) (pointer_at x (number_of (slot_of x) k)) pos e)

  back : (g k : Holder) → (pointer_at y (number_of (slot_of y) g) ≡ 0 → ⊥) → pointer_at y (number_of (slot_of y) g) ≡ pointer_at y (number_of (slot_of y) k)
      → pointer_at x (number_of (slot_of x) g) ≡ pointer_at x (number_of (slot_of x) k)
  back g k pos e =
      (shares_has (pointer_at x (number_of (slot_of x) g)) (pointer_at x (number_of (slot_of x) k))
      (sym (shares_is x g k) ∙ same g k ∙ shares_is y g k ∙ shares_make (pointer_at y (number_of (slot_of y) g)) (pointer_at y (number_of (slot_of y) k)) pos e)).1

  -- a holder of x that points, by its number
  own : (h : ℕ) → (pointer_at x h ≡ 0 → ⊥) → pointer_at x (number_of (slot_of x) (name_of x h)) ≡ pointer_at x h
  own h pos = ap (pointer_at x) (named x sx h pos)

  points : (h : ℕ) → (pointer_at x h ≡ 0 → ⊥) → pointer_at y (to h) ≡ 0 → ⊥
  points h pos = (over (name_of x h) (name_of x h) (λ z. pos (sym (own h pos) ∙ z)) refl).0

  small : (h : ℕ) → (pointer_at y h ≡ 0 → ⊥) → h < 156
  small h pos = go (leb 156 h) refl
    where
      go : (t : Bool) → leb 156 h ≡ t → h < 156
      go true e = absurd (pos (outside y h (leb-true 156 h e)))
      go false e = leb-false 156 h e

  injective : (h k : ℕ) → (pointer_at x h ≡ 0 → ⊥) → (pointer_at x k ≡ 0 → ⊥) → to h ≡ to k → h ≡ k
  injective h k ph pk e =
      let n = one_holder (slot_of y) (slots_of y) (name_of x h) (name_of x k) e (small (to k) (points k pk)) in
      sym (named x sx h ph) ∙ ap (number_of (slot_of x)) n ∙ named x sx k pk

  users_most : (g : Holder) → (sharing_at x).users g ≤ (sharing_at y).users g
  unfolding keyed decode sharing_of count_at
  users_most g = go (eqb (pointer_at x (number_of (slot_of x) g)) 0) refl
    where
      go : (t : Bool) → eqb (pointer_at x (number_of (slot_of x) g)) 0 ≡ t
          → pick t 0 (count_below 156 (λ h. eqb (pointer_at x h) (pointer_at x (number_of (slot_of x) g))))
          ≤ pick (eqb (pointer_at y (number_of (slot_of y) g)) 0) 0 (count_below 156 (λ h. eqb (pointer_at y h) (pointer_at y (number_of (slot_of y) g))))
      go true e = omega arith
      go false e =
          let pos = eqb-false (pointer_at x (number_of (slot_of x) g)) 0 e in
          let q = (over g g pos refl).0 in
          rw (ne_eqb (pointer_at y (number_of (slot_of y) g)) 0 q)
          (count_into 156 156 (λ h. eqb (pointer_at x h) (pointer_at x (number_of (slot_of x) g))) (λ h. eqb (pointer_at y h) (pointer_at y (number_of (slot_of y) g))) to
          (λ h l t. into h pos (eqb-true (pointer_at x h) (pointer_at x (number_of (slot_of x) g)) t))
          (λ h k l u t v m.
          injective h k (λ z. pos (sym (eqb-true (pointer_at x h) (pointer_at x (number_of (slot_of x) g)) t) ∙ z))
          (λ z. pos (sym (eqb-true (pointer_at x k) (pointer_at x (number_of (slot_of x) g)) v) ∙ z)) m))
        where
          into : (h : ℕ) → (pointer_at x (number_of (slot_of x) g) ≡ 0 → ⊥) → pointer_at x h ≡ pointer_at x (number_of (slot_of x) g)
              → (to h < 156) × (eqb (pointer_at y (to h)) (pointer_at y (number_of (slot_of y) g)) ≡ true)
          into h pos t =
              let ph : (pointer_at x h ≡ 0 → ⊥) = λ z. pos (sym t ∙ z) in
              let r = over (name_of x h) g (λ z. ph (sym (own h ph) ∙ z)) (own h ph ∙ t) in
              (small (to h) (points h ph), eq-eqb (pointer_at y (to h)) (pointer_at y (number_of (slot_of y) g)) r.1)

  -- a holder at place p
  abbrev holder_at : ℕ → ℕ
  holder_at p = on_found (first_from 156 0 (λ h. eqb (pointer_at x h) (p + 1))) 0 (λ h. h)

  at_is : (p : ℕ) → not (is_free 156 (pointer_at x) p) ≡ true → pointer_at x (holder_at p) ≡ p + 1
  unfolding count_at
  at_is p t = go (first_from 156 0 (λ h. eqb (pointer_at x h) (p + 1))) refl
    where
      go : (w : Option ℕ) → first_from 156 0 (λ h. eqb (pointer_at x h) (p + 1)) ≡ w → pointer_at x (on_found w 0 (λ h. h)) ≡ p + 1
      go (Some h) e = eqb-true (pointer_at x h) (p + 1) (found 156 0 (λ h. eqb (pointer_at x h) (p + 1)) h e).2
      go None e =
          let z = free_is 156 (pointer_at x) p (count_none 156 (λ h. eqb (pointer_at x h) (p + 1)) (λ h l. none_passes 156 0 (λ h. eqb (pointer_at x h) (p + 1)) e h (omega arith) (omega arith))) in
          let r : not true ≡ true = rw z at t in
          never r

  used_most : (sharing_at x).used ≤ (sharing_at y).used
  unfolding keyed decode sharing_of used_of
  used_most =
      rw (← places)
      (count_into (places_of x) (places_of x) (λ p. not (is_free 156 (pointer_at x) p)) (λ p. not (is_free 156 (pointer_at y) p)) (λ p. pointer_at y (to (holder_at p)) - 1)
      (λ p l t. into p (at_is p t)) (λ p q l u t v m. apart p q (at_is p t) (at_is q v) m))
    where
      positive : (p : ℕ) → pointer_at x (holder_at p) ≡ p + 1 → pointer_at x (holder_at p) ≡ 0 → ⊥
      positive p e z = omega arith

      into : (p : ℕ) → pointer_at x (holder_at p) ≡ p + 1 → (pointer_at y (to (holder_at p)) - 1 < places_of x) × (not (is_free 156 (pointer_at y) (pointer_at y (to (holder_at p)) - 1)) ≡ true)
      into p e =
          let r = points (holder_at p) (positive p e) in
          let v = (valid_has y sy.holders).within (to (holder_at p)) in
          let m : pointer_at y (to (holder_at p)) ≡ pointer_at y (to (holder_at p)) - 1 + 1 = omega (arith, r) in
          let c : 1 ≤ count_at 156 (pointer_at y) (pointer_at y (to (holder_at p)) - 1 + 1) =
          rw (← m) (counted 156 (pointer_at y) (to (holder_at p)) (small (to (holder_at p)) r)) in
          (omega (arith, r, v, places), rw (taken_is 156 (pointer_at y) (pointer_at y (to (holder_at p)) - 1) c))

      apart : (p q : ℕ) → pointer_at x (holder_at p) ≡ p + 1 → pointer_at x (holder_at q) ≡ q + 1 → pointer_at y (to (holder_at p)) - 1 ≡ pointer_at y (to (holder_at q)) - 1 → p ≡ q
      apart p q e f m =
          let r = points (holder_at p) (positive p e) in
          let s = points (holder_at q) (positive q f) in
          let k = back (name_of x (holder_at p)) (name_of x (holder_at q)) r (omega (arith, r, s, m)) in
          let o : pointer_at x (holder_at p) ≡ pointer_at x (holder_at q) = sym (own (holder_at p) (positive p e)) ∙ k ∙ own (holder_at q) (positive q f) in
          omega arith

-- ---- how many records

module _ (x y : List ℕ) (sx : Sound x) (f : Family)
    (same : (a b : ℕ) → on_found (slot_of x f a b) false (λ i. true) ≡ on_found (slot_of y f a b) false (λ i. true)) where
  abbrev place : ℕ → ℕ
  place i = on_found (slot_of y f (first_id x i) (second_id x i)) 0 (λ j. j)

  own_slot : (i : ℕ) → Within f i → is_used x i ≡ true → slot_of x f (first_id x i) (second_id x i) ≡ Some i
  own_slot i w t = one_slot x sx f (first_id x i) (second_id x i) i w (at_own x i (used_has x i t))

  moved : (i : ℕ) → Within f i → is_used x i ≡ true → slot_of y f (first_id x i) (second_id x i) ≡ Some (place i)
  moved i w t = go (slot_of y f (first_id x i) (second_id x i)) refl
    where
      here : on_found (slot_of y f (first_id x i) (second_id x i)) false (λ j. true) ≡ true
      here = sym (same (first_id x i) (second_id x i)) ∙ rw (own_slot i w t)

      go : (v : Option ℕ) → slot_of y f (first_id x i) (second_id x i) ≡ v → slot_of y f (first_id x i) (second_id x i) ≡ Some (on_found v 0 (λ j. j))
      go (Some j) e = e
      go None e = never (sym (ap (λ (v : Option ℕ). on_found v false (λ j. true)) e) ∙ here)

  many_most : many_in x f ≤ many_in y f
  many_most =
      count_into (capacity f) (capacity f) (λ k. is_used x (start f + k)) (λ k. is_used y (start f + k)) (λ k. place (start f + k) - start f)
      (λ k l t. into (start f + k) (record { low = omega arith; high = omega arith }) t)
      (λ j k l u t v m. apart j k (record { low = omega arith; high = omega arith }) (record { low = omega arith; high = omega arith }) t v m)
    where
      into : (i : ℕ) → Within f i → is_used x i ≡ true → (place i - start f < capacity f) × (is_used y (start f + (place i - start f)) ≡ true)
      into i w t =
          let e = moved i w t in
          let v = found_within f y (first_id x i) (second_id x i) (place i) e in
          let low = v.low in
          let high = v.high in
          let n : start f + (place i - start f) ≡ place i = omega arith in
          (omega arith, rw n (used_is y (place i) (at_has y (first_id x i) (second_id x i) (place i) (found (capacity f) (start f) (is_at y (first_id x i) (second_id x i)) (place i) e).2).used))

      apart : (j k : ℕ) → Within f (start f + j) → Within f (start f + k) → is_used x (start f + j) ≡ true → is_used x (start f + k) ≡ true
          → place (start f + j) - start f ≡ place (start f + k) - start f → j ≡ k
      apart j k wj wk t v m =
          let ej = moved (start f + j) wj t in
          let ek = moved (start f + k) wk v in
          let lj = (found_within f y (first_id x (start f + j)) (second_id x (start f + j)) (place (start f + j)) ej).low in
          let lk = (found_within f y (first_id x (start f + k)) (second_id x (start f + k)) (place (start f + k)) ek).low in
          let n : place (start f + k) ≡ place (start f + j) = omega arith in
          let o = (slots_of y).one_record f f (first_id x (start f + j)) (second_id x (start f + j)) (first_id x (start f + k)) (second_id x (start f + k)) (place (start f + j)) ej (ek ∙ ap Some n) in
          let c : slot_of x f (first_id x (start f + j)) (second_id x (start f + j)) ≡ Some (start f + k) = rw (o.1, o.2) (own_slot (start f + k) wk v) in
          let d = own_slot (start f + j) wj t in
          let z : start f + j ≡ start f + k = cc in
          omega arith

-- ---- the whole index

same_places : (x y : List ℕ) → places_of x ≡ places_of y → (sharing_at x).places ≡ (sharing_at y).places
unfolding keyed decode sharing_of
same_places x y e = e

pub decided : (x y : List ℕ) → sound_index x ≡ true → sound_index y ≡ true → places_of x ≡ places_of y
    → ((f : Family) (a b : ℕ) → (index_of x).listed f a b ≡ (index_of y).listed f a b)
    → ((g k : Holder) → (index_of x).sharing.shares g k ≡ (index_of y).sharing.shares g k) → index_of x ≡ index_of y
unfolding index_of
decided x y okx oky places listed shares =
    let sx = sound_has x okx in
    let sy = sound_has y oky in
    same_index (index_of x) (index_of y) listed
    (λ f. both_ways (many_in x f) (many_in y f) (many_most x y sx f (listed f)) (many_most y x sy f (λ a b. sym (listed f a b))))
    (equal_sharing (sharing_at x) (sharing_at y) shares
    (λ g. both_ways ((sharing_at x).users g) ((sharing_at y).users g) (users_most x y sx sy places shares g) (users_most y x sy sx (sym places) (λ g k. sym (shares g k)) g))
    (both_ways (sharing_at x).used (sharing_at y).used (used_most x y sx sy places shares) (used_most y x sy sx (sym places) (λ g k. sym (shares g k))))
    (same_places x y places))
  where
    both_ways : (m n : ℕ) → m ≤ n → n ≤ m → m ≡ n
    both_ways m n a b = omega arith
