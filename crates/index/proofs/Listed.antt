-- What is found and counted in an index's memory after each change of it. Assumes nothing.
use mathlib.Core.Path.{◌≡◌, refl, sym, ◌∙◌}
use mathlib.Core.Bool.{Bool, true, false}
use mathlib.Core.List.{List}
use Prim.Native.Nat.{ℕ, ◌+◌, ◌-◌, ◌≤◌, ◌<◌}
use native.Mathlib.Omega.{arith}
use lib.Dec.{eqb}
use borrow.Author.Tests.{eq-eqb, ne_eqb, eqb-true, eqb-false, not-true, not-false}
use Rattle.std.specs.Prelude.{Some, None}
use Rattle.wire.specs.Tests.{pick, both}
use Rattle.places.specs.declared.Family.{Family}
use Rattle.places.specs.Counts.{one}
use Rattle.places.specs.Holder.{same_family}
use Rattle.places.proofs.Counting.{found, none_passes, first_cong, count_cong, count_change, count_none, count_all, count_below_lem, first_is}
use Rattle.slots.specs.Families.{start, capacity, same_record}
use Rattle.slots.specs.Slots.{used_at, is_used, is_free, is_at, slot_of, free_of, many_in}
use Rattle.slots.proofs.Searching.{first_none}
use Rattle.slots.proofs.Soundness.{Within, within_slots, apart, at_has, at_is, at_free, used_is, free_is, Sound, one_slot}
use Rattle.index.proofs.Memory.{same_used, same_at, Kept, Listed, Freed, Slotted}
use Rattle.places.proofs.Named.{same_family_lem}

-- ---- every slot the same

module _ (x y : List ℕ) (h : Slotted x y) where
  pub slotted_find : (g : Family) (p q : ℕ) → slot_of y g p q ≡ slot_of x g p q
  slotted_find g p q = first_cong (capacity g) (start g) (is_at y p q) (is_at x p q) (λ j l u. same_at x y j (h.slots j) p q)

  pub slotted_many : (g : Family) → many_in y g ≡ many_in x g
  slotted_many g = count_cong (capacity g) (λ k. is_used x (start g + k)) (λ k. is_used y (start g + k)) (λ k l. same_used x y (start g + k) (h.slots (start g + k)))

-- ---- one slot changed

module _ (x y : List ℕ) (i : ℕ) (k : Kept x y i) where
  -- a search where that slot tests as before
  other_find : (g : Family) (p q : ℕ) → (Within g i → is_at y p q i ≡ is_at x p q i) → slot_of y g p q ≡ slot_of x g p q
  other_find g p q h = first_cong (capacity g) (start g) (is_at y p q) (is_at x p q) (λ j l u. go j l u (eqb j i) refl)
    where
      go : (j : ℕ) → start g ≤ j → j < start g + capacity g → (t : Bool) → eqb j i ≡ t → is_at y p q j ≡ is_at x p q j
      go j l u true t = let e : j ≡ i = eqb-true j i t in rw e (h (record { low = rw e at l; high = rw e at u }))
      go j l u false t = same_at x y j (k.others j (eqb-false j i t)) p q

  other_count : (g : Family) → (Within g i → ⊥) → many_in y g ≡ many_in x g
  other_count g h =
      count_cong (capacity g) (λ n. is_used x (start g + n)) (λ n. is_used y (start g + n))
      (λ n u. same_used x y (start g + n) (k.others (start g + n) (λ e. h (record { low = omega arith; high = omega arith }))))

  -- the count, by whether slot i has a record
  own_count : (f : Family) → Within f i → many_in y f + one (is_used x i) ≡ many_in x f + one (is_used y i)
  own_count f w =
      let l = w.low in
      let u = w.high in
      let e : start f + (i - start f) ≡ i = omega arith in
      let r =
      count_change (capacity f) (λ n. is_used x (start f + n)) (λ n. is_used y (start f + n)) (i - start f) (omega arith)
      (λ n v ne. same_used x y (start f + n) (k.others (start f + n) (λ z. ne (omega arith)))) in
      rw e at r

-- ---- ids listed in a free slot

module _ (f : Family) (x y : List ℕ) (i a b : ℕ) (w : Within f i) (h : Listed x y i a b) (free : is_used x i ≡ false) where
  pub find_listed : slot_of x f a b ≡ None → (g : Family) (p q : ℕ) → slot_of y g p q ≡ pick (same_record f a b g p q) (Some i) (slot_of x g p q)
  find_listed none g p q = go (same_family g f) (eqb p a) (eqb q b) refl refl refl
    where
      ids : (u v : Bool) → eqb p a ≡ u → eqb q b ≡ v → is_at y p q i ≡ both u v
      ids u v e r = at_is y i h.used p q ∙ rw (h.first, h.second) (turn u v e r)
        where
          turn : (u v : Bool) → eqb p a ≡ u → eqb q b ≡ v → both (eqb a p) (eqb b q) ≡ both u v
          turn true true e r = rw (eq-eqb a p (sym (eqb-true p a e)), eq-eqb b q (sym (eqb-true q b r)))
          turn true false e r = rw (eq-eqb a p (sym (eqb-true p a e))) (ne_eqb b q (λ z. eqb-false q b r (sym z)))
          turn false v e r = rw (ne_eqb a p (λ z. eqb-false p a e (sym z)))

      here : p ≡ a → q ≡ b → slot_of y f p q ≡ Some i
      here ep eq =
          let n : slot_of x f p q ≡ None = rw (ep, eq) none in
          first_is (capacity f) (start f) (is_at y p q) i w.low w.high (ids true true (eq-eqb p a ep) (eq-eqb q b eq))
          (λ j l u. same_at x y j (h.kept.others j (λ e. omega arith)) p q ∙ none_passes (capacity f) (start f) (is_at x p q) n j l (omega (arith, w.high)))

      go : (t u v : Bool) → same_family g f ≡ t → eqb p a ≡ u → eqb q b ≡ v → slot_of y g p q ≡ pick (both t (both u v)) (Some i) (slot_of x g p q)
      go true true true d e r = rw (same_family_lem g f d) (here (eqb-true p a e) (eqb-true q b r))
      go true true false d e r = other_find x y i h.kept g p q (λ v. ids true false e r ∙ sym (at_free x i free p q))
      go true false v d e r = other_find x y i h.kept g p q (λ z. ids false v e r ∙ sym (at_free x i free p q))
      go false u v d e r = other_find x y i h.kept g p q (λ z. absurd (apart f g i d w z))

  pub many_listed : (g : Family) → many_in y g ≡ pick (same_family g f) (many_in x g + 1) (many_in x g)
  many_listed g = go (same_family g f) refl
    where
      go : (t : Bool) → same_family g f ≡ t → many_in y g ≡ pick t (many_in x g + 1) (many_in x g)
      go true d =
          let r = own_count x y i h.kept f w in
          let s : many_in y f + 0 ≡ many_in x f + 1 = rw (free, used_is y i h.used) at r in
          rw (same_family_lem g f d) (omega arith)
      go false d = other_count x y i h.kept g (apart f g i d w)

-- ---- the slot of a record freed

module _ (f : Family) (x y : List ℕ) (i a b : ℕ) (w : Within f i) (h : Freed x y i) (s : Sound x) (t : is_at x a b i ≡ true) where
  pub find_freed : (g : Family) (p q : ℕ) → slot_of y g p q ≡ pick (same_record f a b g p q) None (slot_of x g p q)
  find_freed g p q = go (same_family g f) (eqb p a) (eqb q b) refl refl refl
    where
      gone : is_at y p q i ≡ false
      gone = at_free y i (free_is y i h.used) p q

      at_i : p ≡ a → q ≡ b → is_at x p q i ≡ true
      at_i e r = rw (e, r) t

      other_ids : (p ≡ a → q ≡ b → ⊥) → is_at x p q i ≡ false
      other_ids ne = tell (is_at x p q i) refl
        where
          tell : (c : Bool) → is_at x p q i ≡ c → is_at x p q i ≡ false
          tell false m = m
          tell true m =
              let o = at_has x a b i t in
              let n = at_has x p q i m in
              absurd (ne (sym n.first ∙ o.first) (sym n.second ∙ o.second))

      here : is_at x p q i ≡ true → slot_of y f p q ≡ None
      here r = first_none (capacity f) (start f) (is_at y p q) (λ j l u. each j l u (eqb j i) (is_at x p q j) refl refl)
        where
          each : (j : ℕ) → start f ≤ j → j < start f + capacity f → (b c : Bool) → eqb j i ≡ b → is_at x p q j ≡ c → is_at y p q j ≡ false
          each j l u true c m n = rw (eqb-true j i m) gone
          each j l u false false m n = same_at x y j (h.kept.others j (eqb-false j i m)) p q ∙ n
          each j l u false true m n =
              let at_i = one_slot x s f p q i w r in
              let at_j = one_slot x s f p q j (record { low = l; high = u }) n in
              let e : j ≡ i = cc in
              absurd (eqb-false j i m e)

      go : (t u v : Bool) → same_family g f ≡ t → eqb p a ≡ u → eqb q b ≡ v → slot_of y g p q ≡ pick (both t (both u v)) None (slot_of x g p q)
      go true true true d e r = rw (same_family_lem g f d) (here (at_i (eqb-true p a e) (eqb-true q b r)))
      go true true false d e r = other_find x y i h.kept g p q (λ v. gone ∙ sym (other_ids (λ m n. eqb-false q b r n)))
      go true false v d e r = other_find x y i h.kept g p q (λ z. gone ∙ sym (other_ids (λ m n. eqb-false p a e m)))
      go false u v d e r = other_find x y i h.kept g p q (λ z. absurd (apart f g i d w z))

  pub many_freed : (g : Family) → many_in y g ≡ pick (same_family g f) (many_in x g - 1) (many_in x g)
  many_freed g = go (same_family g f) refl
    where
      go : (c : Bool) → same_family g f ≡ c → many_in y g ≡ pick c (many_in x g - 1) (many_in x g)
      go true d =
          let r = own_count x y i h.kept f w in
          let m : many_in y f + 1 ≡ many_in x f + 0 = rw (used_is x i (at_has x a b i t).used, free_is y i h.used) at r in
          rw (same_family_lem g f d) (omega arith)
      go false d = other_count x y i h.kept g (apart f g i d w)

-- ---- every slot free

module _ (y : List ℕ) (h : (j : ℕ) → j < 48 → used_at y j ≡ 0) where
  none_used : (g : Family) (j : ℕ) → start g ≤ j → j < start g + capacity g → is_used y j ≡ false
  none_used g j l u = free_is y j (h j (within_slots g j (record { low = l; high = u })))

  pub none_find : (g : Family) (p q : ℕ) → slot_of y g p q ≡ None
  none_find g p q = first_none (capacity g) (start g) (is_at y p q) (λ j l u. at_free y j (none_used g j l u) p q)

  pub none_many : (g : Family) → many_in y g ≡ 0
  none_many g = count_none (capacity g) (λ k. is_used y (start g + k)) (λ k l. none_used g (start g + k) (omega arith) (omega arith))

-- ---- room

pub no_room_lem : (x : List ℕ) (f : Family) → free_of x f ≡ None → many_in x f ≡ capacity f
no_room_lem x f e =
    count_all (capacity f) (λ k. is_used x (start f + k))
    (λ k l. not-false (is_used x (start f + k)) (none_passes (capacity f) (start f) (is_free x) e (start f + k) (omega arith) (omega arith)))

pub some_room : (x : List ℕ) (f : Family) (i : ℕ) → free_of x f ≡ Some i → many_in x f < capacity f
some_room x f i e =
    let r = found (capacity f) (start f) (is_free x) i e in
    let l = r.0 in
    let u = r.1 in
    let n : start f + (i - start f) ≡ i = omega arith in
    count_below_lem (capacity f) (λ k. is_used x (start f + k)) (i - start f) (omega arith) (rw n (not-true (is_used x i) r.2))
