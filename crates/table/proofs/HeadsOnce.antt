-- Each head tested once, by marks of the pointers that stand, answers what a test for each holder does. Assumes nothing.
use mathlib.Core.Path.{◌≡◌, refl, sym, ap, ◌∙◌}
use mathlib.Core.Bool.{Bool, true, false}
use mathlib.Core.List.{List}
use Prim.Native.Nat.{ℕ, ◌+◌, ◌*◌, ◌-◌, ◌≤◌, ◌<◌}
use native.Mathlib.Omega.{arith}
use lib.Dec.{eqb, ltb}
use lib.ListN.{length, get_or, take, drop, length-take, length-drop}
use lib.Seq.{take_all}
use borrow.Author.Tests.{eqb-true, eqb-false, eq-eqb, ne_eqb, ltb-true, ltb-false}
use Rattle.wire.specs.Tests.{pick}
use Rattle.wire.specs.Numbers.{num_at}
use Rattle.wire.proofs.Tests.{both_left, both_right, same_test}
use Rattle.places.specs.Counts.{count_below, each_below}
use Rattle.places.specs.Memory.{pointer_at, count_at}
use Rattle.places.specs.Marks.{Marked}
use Rattle.places.proofs.Counting.{count_one, count_none, each_has, each_is}
use Rattle.places.proofs.Validity.{valid_has}
use Rattle.places.proofs.Ways.{lent_none}
use Rattle.slots.specs.Sound.{sound_index}
use Rattle.slots.proofs.Soundness.{sound_has}
use Rattle.picture.specs.Pictures.{head_ok}
use Rattle.table.specs.Memory.{heads_of, holder_ok, marked_ok, unmarked}

-- ---- one place

module _ (ms b : List ℕ) (p : ℕ) where
  pub marked_none : get_or ms (p + 1) 0 ≡ 0 → true ≡ marked_ok ms b p
  unfolding marked_ok
  marked_none e = rw e

  pub place_room : p < 64 → 61012 ≤ length b → 14 * p + 14 ≤ length (take (length b - 60116) (drop 60116 b))
  place_room l big = simp (length-take, length-drop) (omega arith)

  pub marked_head : {r : Bool} → 60116 ≤ length b → (get_or ms (p + 1) 0 ≡ 0 → ⊥) → r ≡ head_ok (take (length b - 60116) (drop 60116 b)) p → r ≡ marked_ok ms b p
  unfolding marked_ok heads_of
  marked_head long ne f =
      let w : take (length b - 60116) (drop 60116 b) ≡ drop 60116 b = take_all (length b - 60116) (drop 60116 b) (simp length-drop (omega arith)) in
      rw (ne_eqb (get_or ms (p + 1) 0) 0 ne) (f ∙ ap (λ (y : List ℕ). head_ok y p) w)

-- ---- a group of them that is lent

module _ (ms b : List ℕ) (p n : ℕ) (big : 8 ≤ n) (e : unmarked (take n (drop (p + 1) ms)) ≡ true) where
  abbrev none_at : ℕ → Bool
  none_at i = eqb (num_at 4 (take n (drop (p + 1) ms)) i) 0

  pub group_none : (q : ℕ) → p ≤ q → q < p + 8 → marked_ok ms b q ≡ true
  group_none q l u = sym (marked_none ms b q (go (ltb q (p + 4)) refl))
    where
      go : (t : Bool) → ltb q (p + 4) ≡ t → get_or ms (q + 1) 0 ≡ 0
      go true v = lent_none ms (p + 1) n 0 (omega arith) (both_left (none_at 0) (none_at 4) e) (q + 1) (omega arith) (omega (arith, ltb-true q (p + 4) v))
      go false v = lent_none ms (p + 1) n 4 (omega arith) (both_right (none_at 0) (none_at 4) e) (q + 1) (omega (arith, ltb-false q (p + 4) v)) (omega arith)

-- ---- all of them

module _ (x b ms : List ℕ) (sound : sound_index x ≡ true) (marked : Marked (pointer_at x) 156 ms) where
  -- a holder whose place has a good head
  holder_good : each_below 64 (marked_ok ms b) ≡ true → (h : ℕ) → h < 156 → holder_ok x b h ≡ true
  unfolding holder_ok marked_ok count_at
  holder_good e h l = go (eqb (pointer_at x h) 0) refl
    where
      go : (t : Bool) → eqb (pointer_at x h) 0 ≡ t → pick t true (head_ok (heads_of b) (pointer_at x h - 1)) ≡ true
      go true u = refl
      go false u =
          let v = valid_has x (sound_has x sound).holders in
          let ne = eqb-false (pointer_at x h) 0 u in
          let i = v.within h in
          let m = v.many in
          let k = each_has 64 (marked_ok ms b) e (pointer_at x h - 1) (omega (arith, ne, i, m)) in
          let one = count_one 156 (λ g. eqb (pointer_at x g) (pointer_at x h)) h l (eq-eqb (pointer_at x h) (pointer_at x h) refl) in
          let c : eqb (count_below 156 (λ g. eqb (pointer_at x g) (pointer_at x h))) 0 ≡ false = ne_eqb (count_below 156 (λ g. eqb (pointer_at x g) (pointer_at x h))) 0 (λ z. omega (arith, one)) in
          let f : pointer_at x h - 1 + 1 ≡ pointer_at x h = omega (arith, ne) in
          let d : eqb (get_or ms (pointer_at x h - 1 + 1) 0) 0 ≡ false = ap (λ (q : ℕ). eqb (get_or ms q 0) 0) f ∙ marked (pointer_at x h) (omega (arith, ne)) (omega (arith, i, m)) ∙ c in
          rw d at k

  -- a place that is good for each holder at it
  place_good : each_below 156 (holder_ok x b) ≡ true → (p : ℕ) → p < 64 → marked_ok ms b p ≡ true
  unfolding marked_ok holder_ok count_at
  place_good e p l = go (eqb (get_or ms (p + 1) 0) 0) refl (head_ok (heads_of b) p) refl
    where
      none : head_ok (heads_of b) p ≡ false → (h : ℕ) → h < 156 → (t : Bool) → eqb (pointer_at x h) (p + 1) ≡ t → eqb (pointer_at x h) (p + 1) ≡ false
      none f h m true u =
          let q : pointer_at x h ≡ p + 1 = eqb-true (pointer_at x h) (p + 1) u in
          let z : eqb (p + 1) 0 ≡ false = ne_eqb (p + 1) 0 (λ w. omega arith) in
          let s : p + 1 - 1 ≡ p = omega arith in
          let k = each_has 156 (holder_ok x b) e h m in
          let r : head_ok (heads_of b) p ≡ true = rw (q, z, s) at k in
          u ∙ sym r ∙ f
      none f h m false u = u

      go : (t : Bool) → eqb (get_or ms (p + 1) 0) 0 ≡ t → (k : Bool) → head_ok (heads_of b) p ≡ k → pick t true (head_ok (heads_of b) p) ≡ true
      go true u k f = refl
      go false u true f = f
      go false u false f =
          let c = count_none 156 (λ h. eqb (pointer_at x h) (p + 1)) (λ h m. none f h m (eqb (pointer_at x h) (p + 1)) refl) in
          f ∙ sym u ∙ marked (p + 1) (omega arith) (omega arith) ∙ eq-eqb (count_below 156 (λ h. eqb (pointer_at x h) (p + 1))) 0 c

  pub heads_once : {r : Bool} → r ≡ each_below 64 (marked_ok ms b) → r ≡ each_below 156 (holder_ok x b)
  heads_once e =
      e
      ∙ same_test (each_below 64 (marked_ok ms b)) (each_below 156 (holder_ok x b)) (λ t. each_is 156 (holder_ok x b) (holder_good t)) (λ t. each_is 64 (marked_ok ms b) (place_good t))
