-- What the rule of an index says of its slots. Assumes nothing.
use mathlib.Core.Path.{◌≡◌, refl, sym, ap, ◌∙◌}
use mathlib.Core.Bool.{Bool, true, false, not}
use mathlib.Core.List.{List}
use Prim.Native.Nat.{ℕ, zero, suc, ◌+◌, ◌*◌, ◌≤◌, ◌<◌}
use native.Mathlib.Omega.{arith}
use lib.Dec.{eqb, ltb}
use lib.ListN.{length}
use borrow.Author.Tests.{eq-eqb, eqb-true, le-ltb, ltb-false}
use Rattle.std.specs.Prelude.{Option, Some, None}
use Rattle.wire.specs.Tests.{pick, both}
use Rattle.wire.proofs.Tests.{both_left, both_right, never}
use Rattle.places.specs.declared.Family.{Family}
use Rattle.places.specs.declared.Family.TheVariants.{Windows, Notifications}
use Rattle.places.specs.Counts.{first_from, on_found}
use Rattle.places.specs.Memory.{pointer_at, valid}
use Rattle.places.specs.Holder.{same_family}
use Rattle.places.proofs.Counting.{found}
use Rattle.places.proofs.Named.{Slots, family_same}
use Rattle.slots.specs.Families.{start, capacity, highest}
use Rattle.slots.specs.Slots.{used_at, first_id, second_id, is_used, is_free, is_at, slot_of, free_of}
use Rattle.slots.specs.Sound.{no_pointers, slot_ok, family_ok, sound_index}
use Rattle.slots.proofs.Searching.{each_ok, all_ok}

-- ---- families

pub record Within (f : Family) (i : ℕ) : Type 0 where
  pub low : start f ≤ i
  pub high : i < start f + capacity f

pub within_slots : (f : Family) (i : ℕ) → Within f i → i < 48
within_slots Windows i w = omega (arith, w.high)
within_slots Notifications i w = omega (arith, w.high)

-- a slot is of one family
pub one_family : (f g : Family) (i : ℕ) → Within f i → Within g i → g ≡ f
one_family Windows Windows i v w = refl
one_family Windows Notifications i v w = absurd (omega (arith, v.high, w.low))
one_family Notifications Windows i v w = absurd (omega (arith, w.high, v.low))
one_family Notifications Notifications i v w = refl

pub apart : (f g : Family) (i : ℕ) → same_family g f ≡ false → Within f i → Within g i → ⊥
apart f g i e v w =
    let x : g ≡ f = one_family f g i v w in
    let y : same_family f f ≡ false = rw x at e in
    never (sym y ∙ family_same f)

pub found_within : (f : Family) (x : List ℕ) (a b i : ℕ) → slot_of x f a b ≡ Some i → Within f i
found_within f x a b i e = let r = found (capacity f) (start f) (is_at x a b) i e in record { low = r.0; high = r.1 }

pub free_within : (f : Family) (x : List ℕ) (i : ℕ) → free_of x f ≡ Some i → Within f i
free_within f x i e = let r = found (capacity f) (start f) (is_free x) i e in record { low = r.0; high = r.1 }

-- ---- a slot with a record

pub record IsAt (x : List ℕ) (a b i : ℕ) : Type 0 where
  pub used : used_at x i ≡ 1
  pub first : first_id x i ≡ a
  pub second : second_id x i ≡ b

pub at_has : (x : List ℕ) (a b i : ℕ) → is_at x a b i ≡ true → IsAt x a b i
unfolding is_at is_used
at_has x a b i e =
    let u = eqb (used_at x i) 1 in
    let p = eqb (first_id x i) a in
    let q = eqb (second_id x i) b in
    let r : both p q ≡ true = both_right u (both p q) e in
    record {
      used = eqb-true (used_at x i) 1 (both_left u (both p q) e);
      first = eqb-true (first_id x i) a (both_left p q r);
      second = eqb-true (second_id x i) b (both_right p q r);
    }

pub at_is : (x : List ℕ) (i : ℕ) → used_at x i ≡ 1 → (a b : ℕ) → is_at x a b i ≡ both (eqb (first_id x i) a) (eqb (second_id x i) b)
unfolding is_at is_used
at_is x i e a b = rw e

pub at_own : (x : List ℕ) (i : ℕ) → used_at x i ≡ 1 → is_at x (first_id x i) (second_id x i) i ≡ true
at_own x i e = at_is x i e (first_id x i) (second_id x i) ∙ rw (eq-eqb (first_id x i) (first_id x i) refl, eq-eqb (second_id x i) (second_id x i) refl)

pub at_free : (x : List ℕ) (i : ℕ) → is_used x i ≡ false → (a b : ℕ) → is_at x a b i ≡ false
unfolding is_at
at_free x i e a b = rw e

pub used_is : (x : List ℕ) (i : ℕ) → used_at x i ≡ 1 → is_used x i ≡ true
unfolding is_used
used_is x i e = rw e

pub used_has : (x : List ℕ) (i : ℕ) → is_used x i ≡ true → used_at x i ≡ 1
unfolding is_used
used_has x i e = eqb-true (used_at x i) 1 e

pub free_is : (x : List ℕ) (i : ℕ) → used_at x i ≡ 0 → is_used x i ≡ false
unfolding is_used
free_is x i e = rw e

-- ---- a slot in order

pub record Own (x : List ℕ) (first count top i : ℕ) : Type 0 where
  pub second : second_id x i ≤ top
  pub first_is : first_from count first (is_at x (first_id x i) (second_id x i)) ≡ Some i

module _ (x : List ℕ) (first count top i : ℕ) where
  pub slot_free : used_at x i ≡ 0 → no_pointers x i ≡ true → slot_ok x first count top i ≡ true
  unfolding slot_ok
  slot_free e n = rw e n

  pub slot_used : used_at x i ≡ 1 → Own x first count top i → slot_ok x first count top i ≡ true
  unfolding slot_ok
  slot_used e o = rw (e, le-ltb top (second_id x i) o.second, o.first_is) (eq-eqb i i refl)

  pub slot_own : slot_ok x first count top i ≡ true → used_at x i ≡ 1 → Own x first count top i
  unfolding slot_ok
  slot_own t e =
      let a = first_id x i in
      let b = second_id x i in
      let r : pick (ltb top b) false (on_found (first_from count first (is_at x a b)) false (λ j. eqb j i)) ≡ true = rw e at t in
      go (ltb top b) (first_from count first (is_at x a b)) refl refl r
    where
      go : (u : Bool) (w : Option ℕ) → ltb top (second_id x i) ≡ u → first_from count first (is_at x (first_id x i) (second_id x i)) ≡ w
          → pick u false (on_found w false (λ j. eqb j i)) ≡ true → Own x first count top i
      go true w m n r = never r
      go false None m n r = never r
      go false (Some j) m n r = record { second = ltb-false top (second_id x i) m; first_is = n ∙ ap Some (eqb-true j i r) }

  -- used is 0 or 1
  pub slot_cases : {A : Type 0} → slot_ok x first count top i ≡ true → (used_at x i ≡ 0 → no_pointers x i ≡ true → A) → (used_at x i ≡ 1 → A) → A
  unfolding slot_ok
  slot_cases {A = A} t free used = go (eqb (used_at x i) 0) (eqb (used_at x i) 1) refl refl t
    where
      rest : Bool
      rest = pick (ltb top (second_id x i)) false (on_found (first_from count first (is_at x (first_id x i) (second_id x i))) false (λ j. eqb j i))

      go : (u w : Bool) → eqb (used_at x i) 0 ≡ u → eqb (used_at x i) 1 ≡ w → pick u (no_pointers x i) (pick (not w) false rest) ≡ true → A
      go true w m n r = free (eqb-true (used_at x i) 0 m) r
      go false true m n r = used (eqb-true (used_at x i) 1 n)
      go false false m n r = never r

-- ---- pointers of a slot without a record

pub no_pointers_has : (x : List ℕ) (i : ℕ) → no_pointers x i ≡ true → (w : ℕ) → w < 3 → pointer_at x (12 + 3 * i + w) ≡ 0
unfolding no_pointers
no_pointers_has x i e w l = go w l
  where
    t0 : Bool
    t0 = eqb (pointer_at x (12 + 3 * i + 0)) 0

    t1 : Bool
    t1 = eqb (pointer_at x (12 + 3 * i + 1)) 0

    t2 : Bool
    t2 = eqb (pointer_at x (12 + 3 * i + 2)) 0

    rest : both t1 t2 ≡ true
    rest = both_right t0 (both t1 t2) e

    go : (w : ℕ) → w < 3 → pointer_at x (12 + 3 * i + w) ≡ 0
    go zero l = eqb-true (pointer_at x (12 + 3 * i + 0)) 0 (both_left t0 (both t1 t2) e)
    go (suc zero) l = eqb-true (pointer_at x (12 + 3 * i + 1)) 0 (both_left t1 t2 rest)
    go (suc (suc zero)) l = eqb-true (pointer_at x (12 + 3 * i + 2)) 0 (both_right t1 t2 rest)
    go (suc (suc (suc w))) l = absurd (omega arith)

pub no_pointers_is : (x : List ℕ) (i : ℕ) → ((w : ℕ) → w < 3 → pointer_at x (12 + 3 * i + w) ≡ 0) → no_pointers x i ≡ true
unfolding no_pointers
no_pointers_is x i f =
    let a = f 0 (omega arith) in
    let b = f 1 (omega arith) in
    let c = f 2 (omega arith) in
    rw (a, b, c)

-- ---- the whole memory

pub record Sound (x : List ℕ) : Type 0 where
  pub long : 589 ≤ length x
  pub holders : valid x ≡ true
  pub slots : (f : Family) (i : ℕ) → Within f i → slot_ok x (start f) (capacity f) (highest f) i ≡ true

pub sound_has : (x : List ℕ) → sound_index x ≡ true → Sound x
unfolding sound_index
sound_has x e = go (ltb (length x) 589) (valid x) (family_ok x Windows) refl refl refl e
  where
    families : family_ok x Windows ≡ true → family_ok x Notifications ≡ true
        → (f : Family) (i : ℕ) → Within f i → slot_ok x (start f) (capacity f) (highest f) i ≡ true
    families a b Windows i w = each_ok 32 0 (slot_ok x 0 32 0) a i w.low w.high
    families a b Notifications i w = each_ok 16 32 (slot_ok x 32 16 0xFFFFFFFF) b i w.low w.high

    go : (t u v : Bool) → ltb (length x) 589 ≡ t → valid x ≡ u → family_ok x Windows ≡ v
        → pick t false (pick (not u) false (pick (not v) false (family_ok x Notifications))) ≡ true → Sound x
    go true u v m n r e = never e
    go false false v m n r e = never e
    go false true false m n r e = never e
    go false true true m n r e = record { long = ltb-false (length x) 589 m; holders = n; slots = families r e }

pub sound_is : (x : List ℕ) → Sound x → sound_index x ≡ true
unfolding sound_index
sound_is x s =
    let a : family_ok x Windows ≡ true = all_ok 32 0 (slot_ok x 0 32 0) (λ i l u. s.slots Windows i (record { low = l; high = u })) in
    let b : family_ok x Notifications ≡ true = all_ok 16 32 (slot_ok x 32 16 0xFFFFFFFF) (λ i l u. s.slots Notifications i (record { low = l; high = u })) in
    rw (le-ltb (length x) 589 s.long, s.holders, a, b)

-- ids stand in one slot of a family only
pub one_slot : (x : List ℕ) → Sound x → (f : Family) (a b i : ℕ) → Within f i → is_at x a b i ≡ true → slot_of x f a b ≡ Some i
one_slot x s f a b i w t =
    let h = at_has x a b i t in
    let o = slot_own x (start f) (capacity f) (highest f) i (s.slots f i w) h.used in
    let e : first_from (capacity f) (start f) (is_at x (first_id x i) (second_id x i)) ≡ Some i = o.first_is in
    rw (h.first, h.second) at e

-- a slot without a record has no pointers
pub free_pointers : (x : List ℕ) → Sound x → (f : Family) (i : ℕ) → Within f i → is_used x i ≡ false → (w : ℕ) → w < 3 → pointer_at x (12 + 3 * i + w) ≡ 0
free_pointers x s f i within e =
    slot_cases x (start f) (capacity f) (highest f) i (s.slots f i within) (λ u n. no_pointers_has x i n)
    (λ u. never (sym e ∙ used_is x i u))

-- what the search says to the holders' laws
pub slots_of : (x : List ℕ) → Slots (slot_of x)
slots_of x =
    record {
      below = λ f a b i e. within_slots f i (found_within f x a b i e);
      one_record = λ f g a b p q i e h.
          let u = at_has x a b i (found (capacity f) (start f) (is_at x a b) i e).2 in
          let v = at_has x p q i (found (capacity g) (start g) (is_at x p q) i h).2 in
          (one_family g f i (found_within g x p q i h) (found_within f x a b i e), sym u.first ∙ v.first, sym u.second ∙ v.second);
    }
