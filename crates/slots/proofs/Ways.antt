-- The laws that the functions' proofs cite, one for each way through them. Assumes nothing.
use mathlib.Core.Path.{◌≡◌, refl, sym, ap, ◌∙◌}
use mathlib.Core.Bool.{Bool, true, false}
use mathlib.Core.List.{List}
use Prim.Native.Nat.{ℕ, suc, ◌+◌, ◌*◌, ◌-◌, ◌≤◌, ◌<◌}
use native.Mathlib.Omega.{arith}
use lib.Dec.{eqb, leb, ltb}
use lib.ListN.{length, get_or, take, drop}
use borrow.Author.Tests.{eq-eqb, ne_eqb, leb-true, le-leb, ltb-true, le-ltb, lt-ltb}
use Rattle.std.specs.Prelude.{Option, Some, None}
use Rattle.wire.specs.Tests.{both}
use Rattle.wire.specs.Numbers.{num_at}
use Rattle.wire.specs.Parts.{slice}
use Rattle.wire.proofs.Tests.{both_left, both_right}
use Rattle.wire.proofs.Numbers.{num1_is, num_slice}
use Rattle.places.specs.declared.Family.{Family}
use Rattle.places.specs.declared.Family.TheVariants.{Windows, Notifications}
use Rattle.places.specs.Counts.{first_from, on_found}
use Rattle.places.specs.Memory.{pointer_at, valid}
use Rattle.places.proofs.Bytes.{inside}
use Rattle.places.proofs.Counting.{found}
use Rattle.slots.specs.declared.Searched.{Searched}
use Rattle.slots.specs.Families.{start, capacity, is_within}
use Rattle.slots.specs.Slots.{used_at, first_id, second_id, is_used, is_free, is_at, slot_of, free_of, search_from, search_of, slot_has}
use Rattle.slots.specs.Sound.{each_from, no_pointers, sound_index, family_ok}
use Rattle.slots.proofs.Searching.{first_parts}
use Rattle.slots.proofs.Soundness.{Within, sound_has, one_slot}

-- ---- a slot

module _ (slot : List ℕ) (a b : ℕ) {x : ℕ} (e : x ≡ num_at 4 slot 1) where
  pub ids_other : (x ≡ a → ⊥) → false ≡ slot_has slot a b
  unfolding slot_has
  ids_other n = rw (← e, ne_eqb x a n) (sym (both_false (eqb (num_at 1 slot 0) 1)))
    where
      both_false : (t : Bool) → both t false ≡ false
      both_false true = refl
      both_false false = refl

  module _ (n : x ≡ a) {u : ℕ} (f : u ≡ num_at 1 slot 0) where
    pub ids_free : (u ≡ 1 → ⊥) → false ≡ slot_has slot a b
    unfolding slot_has
    ids_free m = rw (← f, ne_eqb u 1 m)

    pub ids_second : {y : ℕ} → u ≡ 1 → y ≡ num_at 4 slot 5 → eqb y b ≡ slot_has slot a b
    unfolding slot_has
    ids_second m g = rw (← f, eq-eqb u 1 m, ← e, eq-eqb x a n, ← g)

pub slot_lent : (x : List ℕ) (a b i base n : ℕ) {u : Bool} → base ≡ 157 + 9 * i → n ≡ 9 → u ≡ slot_has (take n (drop base x)) a b → u ≡ is_at x a b i
unfolding is_at is_used used_at first_id second_id slot_has slice
slot_lent x a b i base n e f h =
    let m : 157 + 9 * i + 0 ≡ 157 + 9 * i = omega arith in
    let p : num_at 1 (slice x base n) 0 ≡ num_at 1 x (157 + 9 * i) = num_slice 1 x base n 0 (omega (arith, f)) ∙ ap (λ (k : ℕ). num_at 1 x (k + 0)) e ∙ ap (num_at 1 x) m in
    let q : num_at 4 (slice x base n) 1 ≡ num_at 4 x (157 + 9 * i + 1) = num_slice 4 x base n 1 (omega (arith, f)) ∙ ap (λ (k : ℕ). num_at 4 x (k + 1)) e in
    let r : num_at 4 (slice x base n) 5 ≡ num_at 4 x (157 + 9 * i + 5) = num_slice 4 x base n 5 (omega (arith, f)) ∙ ap (λ (k : ℕ). num_at 4 x (k + 5)) e in
    rw (← p, ← q, ← r) h

module _ (x : List ℕ) (i : ℕ) where
  pub slot_unused : (get_or x (157 + 9 * i) 0 ≡ 1 → ⊥) → is_free x i ≡ true
  unfolding is_used used_at
  slot_unused n = rw (← num1_is x (157 + 9 * i), ne_eqb (get_or x (157 + 9 * i) 0) 1 n)

  pub slot_taken : get_or x (157 + 9 * i) 0 ≡ 1 → is_free x i ≡ false
  unfolding is_used used_at
  slot_taken e = rw (← num1_is x (157 + 9 * i), eq-eqb (get_or x (157 + 9 * i) 0) 1 e)

-- ---- loops over slots

pub first_start : (test : ℕ → Bool) (first count : ℕ) → first_from count first test ≡ first_from (first + count - first) first test
first_start test first count = let e : first + count - first ≡ count = omega arith in rw e

pub ok_start : (test : ℕ → Bool) (first count : ℕ) → each_from count first test ≡ each_from (first + count - first) first test
ok_start test first count = let e : first + count - first ≡ count = omega arith in rw e

module _ (test : ℕ → Bool) (end i : ℕ) where
  module _ (more : i < end) {u : Bool} (e : u ≡ test i) where
    pub first_here : u ≡ true → first_from (end - i) i test ≡ Some i
    unfolding first_from
    first_here t = let n : end - i ≡ suc (end - (i + 1)) = omega arith in rw (n, ← e, t)

    pub first_next : u ≡ false → first_from (end - i) i test ≡ first_from (end - (i + 1)) (i + 1) test
    unfolding first_from
    first_next t = let n : end - i ≡ suc (end - (i + 1)) = omega arith in rw (n, ← e, t)

    pub ok_stop : u ≡ false → each_from (end - i) i test ≡ false
    unfolding each_from
    ok_stop t = let n : end - i ≡ suc (end - (i + 1)) = omega arith in rw (n, ← e, t)

    pub ok_next : u ≡ true → each_from (end - i) i test ≡ each_from (end - (i + 1)) (i + 1) test
    unfolding each_from
    ok_next t = let n : end - i ≡ suc (end - (i + 1)) = omega arith in rw (n, ← e, t)

  module _ (over : end ≤ i) where
    pub first_none : first_from (end - i) i test ≡ None
    unfolding first_from
    first_none = let n : end - i ≡ 0 = omega arith in rw n

    pub ok_done : each_from (end - i) i test ≡ true
    unfolding each_from
    ok_done = let n : end - i ≡ 0 = omega arith in rw n

-- ---- the search

pub search_is : (test : ℕ → Bool) (first count : ℕ) (w : Option ℕ) → first_from count first test ≡ w
    → record { found = w; looked = on_found w count (λ i. i - first + 1) } ≡ search_from count first test
unfolding search_from
search_is test first count w e = rw e

pub find_family : (x : List ℕ) (f g : Family) (a b : ℕ) {r : Searched} → f ≡ g → r ≡ search_of x g a b → r ≡ search_of x f a b
find_family x f g a b e h = rw e h

pub free_family : (x : List ℕ) (f g : Family) {r : Option ℕ} → f ≡ g → r ≡ free_of x g → r ≡ free_of x f
free_family x f g e h = rw e h

pub found_is : (test : ℕ → Bool) (first count : ℕ) {r : Searched} {w : Option ℕ} → r ≡ search_from count first test → r.found ≡ w → first_from count first test ≡ w
unfolding search_from
found_is test first count e g = sym (ap (λ (r : Searched). r.found) e) ∙ g

-- a search looks at no more slots than it is asked to
pub looked_most : (test : ℕ → Bool) (first count : ℕ) {r : Searched} → r ≡ search_from count first test → r.looked ≤ count
unfolding search_from
looked_most test first count e = rw e (go (first_from count first test) refl)
  where
    go : (w : Option ℕ) → first_from count first test ≡ w → on_found w count (λ j. j - first + 1) ≤ count
    go (Some j) u = let s = found count first test j u in omega (arith, s.0, s.1)
    go None u = omega arith

-- in two halves
module _ (test : ℕ → Bool) {f : Searched} (e : f ≡ search_from 16 0 test) where
  pub half_found : {j : ℕ} → f.found ≡ Some j → f ≡ search_from 32 0 test
  unfolding search_from
  half_found {j} h =
      let k : first_from 16 0 test ≡ Some j = found_is test 0 16 e h in
      let w : first_from 32 0 test ≡ Some j = first_parts 16 16 0 test ∙ ap (λ (v : Option ℕ). on_found v (first_from 16 16 test) Some) k in
      e ∙ rw (k, w)

  pub half_none : {g : Searched} → f.found ≡ None → g ≡ search_from 16 16 test → record { found = g.found; looked = 16 + g.looked } ≡ search_from 32 0 test
  unfolding search_from
  half_none {g} h d =
      let k : first_from 16 0 test ≡ None = found_is test 0 16 e h in
      let w : first_from 32 0 test ≡ first_from 16 16 test = first_parts 16 16 0 test ∙ ap (λ (v : Option ℕ). on_found v (first_from 16 16 test) Some) k in
      rw (d, w) (go (first_from 16 16 test) refl)
    where
      go : (v : Option ℕ) → first_from 16 16 test ≡ v
          → ◌≡◌ {A = Searched} (record { found = v; looked = 16 + on_found v 16 (λ j. j - 16 + 1) }) (record { found = v; looked = on_found v 32 (λ j. j - 0 + 1) })
      go (Some j) u =
          let r = found 16 16 test j u in
          let n : 16 + (j - 16 + 1) ≡ j - 0 + 1 = omega (arith, r.0) in
          rw n
      go None u = refl

-- ---- a slot that is looked at first

pub within_window : (f : Family) (i : ℕ) → f ≡ Windows → ltb i 32 ≡ is_within f i
within_window f i e = rw e (sym (ap (λ (t : Bool). both t (ltb i 32)) (le-leb 0 i (omega arith))))

pub within_notification : (f : Family) (i : ℕ) → f ≡ Notifications → both (leb 32 i) (ltb i 48) ≡ is_within f i
within_notification f i e = rw e

pub record_outside : (f : Family) (i : ℕ) (t : Bool) {w : Bool} → w ≡ is_within f i → w ≡ false → false ≡ both (is_within f i) t
record_outside f i t e h = rw (← e, h)

pub record_inside : (f : Family) (i : ℕ) (t : Bool) {w u : Bool} → w ≡ is_within f i → w ≡ true → u ≡ t → u ≡ both (is_within f i) t
record_inside f i t e h k = rw (← e, h) k

pub near_is : (x : List ℕ) → sound_index x ≡ true → (f : Family) (a b i : ℕ) {t : Bool} → t ≡ both (is_within f i) (is_at x a b i) → t ≡ true → Some i ≡ slot_of x f a b
near_is x s f a b i e h =
    let l = leb (start f) i in
    let u = ltb i (start f + capacity f) in
    let q = is_at x a b i in
    let g : both (both l u) q ≡ true = sym e ∙ h in
    let w : both l u ≡ true = both_left (both l u) q g in
    let within : Within f i = record { low = leb-true (start f) i (both_left l u w); high = ltb-true i (start f + capacity f) (both_right l u w) } in
    sym (one_slot x (sound_has x s) f a b i within (both_right (both l u) q g))

-- ---- the rule

pub sound_long : (x : List ℕ) → sound_index x ≡ true → 589 ≤ length x
sound_long x e = (sound_has x e).long

pub sound_holders : (x : List ℕ) → sound_index x ≡ true → valid x ≡ true
sound_holders x e = (sound_has x e).holders

pub pointers_none : (x : List ℕ) (i : ℕ) → i < 48
    → both (eqb (get_or x (12 + 3 * i + 1) 0) 0) (both (eqb (get_or x (12 + 3 * i + 1 + 1) 0) 0) (eqb (get_or x (12 + 3 * i + 1 + 2) 0) 0)) ≡ no_pointers x i
unfolding no_pointers
pointers_none x i l =
    let a : get_or x (12 + 3 * i + 1) 0 ≡ pointer_at x (12 + 3 * i + 0) = (let m : 12 + 3 * i + 1 ≡ 12 + 3 * i + 0 + 1 = omega arith in ap (λ (k : ℕ). get_or x k 0) m) ∙ sym (inside x (12 + 3 * i + 0) (omega arith)) in
    let b : get_or x (12 + 3 * i + 1 + 1) 0 ≡ pointer_at x (12 + 3 * i + 1) = sym (inside x (12 + 3 * i + 1) (omega arith)) in
    let c : get_or x (12 + 3 * i + 1 + 2) 0 ≡ pointer_at x (12 + 3 * i + 2) = (let m : 12 + 3 * i + 1 + 2 ≡ 12 + 3 * i + 2 + 1 = omega arith in ap (λ (k : ℕ). get_or x k 0) m) ∙ sym (inside x (12 + 3 * i + 2) (omega arith)) in
    rw (← a, ← b, ← c)

module _ (x : List ℕ) where
  pub sound_short : length x < 589 → false ≡ sound_index x
  unfolding sound_index
  sound_short h = rw (lt-ltb (length x) 589 h)

  module _ (h : 589 ≤ length x) {v : Bool} (k : v ≡ valid x) where
    pub sound_invalid : v ≡ false → false ≡ sound_index x
    unfolding sound_index
    sound_invalid m = rw (le-ltb (length x) 589 h, ← k, m)

    module _ (m : v ≡ true) {t : Bool} (e : t ≡ family_ok x Windows) where
      pub sound_windows : t ≡ false → false ≡ sound_index x
      unfolding sound_index
      sound_windows f = rw (le-ltb (length x) 589 h, ← k, m, ← e, f)

      pub sound_rest : {u : Bool} → t ≡ true → u ≡ family_ok x Notifications → u ≡ sound_index x
      unfolding sound_index
      sound_rest f g = rw (le-ltb (length x) 589 h, ← k, m, ← e, f) g
