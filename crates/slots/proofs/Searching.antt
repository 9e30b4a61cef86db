-- Searches and tests over a range of numbers. Assumes nothing.
use mathlib.Core.Path.{◌≡◌, refl}
use mathlib.Core.Bool.{Bool, true, false}
use Prim.Native.Nat.{ℕ, zero, suc, ◌+◌, ◌≤◌, ◌<◌}
use native.Mathlib.Omega.{arith}
use lib.Dec.{eqb}
use borrow.Author.Tests.{eqb-true, eqb-false}
use Rattle.std.specs.Prelude.{Some, None}
use Rattle.wire.specs.Tests.{pick}
use Rattle.wire.proofs.Tests.{both_left, both_right}
use Rattle.places.specs.Counts.{first_from, on_found}
use Rattle.slots.specs.Sound.{each_from}

-- where each in the range fails, nothing is found
pub first_none : (n i : ℕ) (test : ℕ → Bool) → ((j : ℕ) → i ≤ j → j < i + n → test j ≡ false) → first_from n i test ≡ None
unfolding first_from
first_none zero i test f = refl
first_none (suc n) i test f =
    let h : test i ≡ false = f i (omega arith) (omega arith) in
    rw (h, first_none n (i + 1) test (λ j l u. f j (omega arith) (omega arith)))

-- a search of m + n is one of m and, where that finds nothing, one of the n after them
pub first_parts : (m n i : ℕ) (test : ℕ → Bool) → first_from (m + n) i test ≡ on_found (first_from m i test) (first_from n (i + m) test) Some
unfolding first_from
first_parts zero n i test = let e : i + 0 ≡ i = omega arith in let f : 0 + n ≡ n = omega arith in rw (e, f)
first_parts (suc m) n i test =
    let e : suc m + n ≡ suc (m + n) = omega arith in
    let f : i + suc m ≡ i + 1 + m = omega arith in
    rw (e, f, first_parts m n (i + 1) test) (go (test i))
  where
    go : (t : Bool) → pick t (Some i) (on_found (first_from m (i + 1) test) (first_from n (i + 1 + m) test) Some) ≡ on_found (pick t (Some i) (first_from m (i + 1) test)) (first_from n (i + 1 + m) test) Some
    go true = refl
    go false = refl

-- ---- a test that holds of each number in a range

pub each_ok : (n i : ℕ) (test : ℕ → Bool) → each_from n i test ≡ true → (j : ℕ) → i ≤ j → j < i + n → test j ≡ true
unfolding each_from
each_ok zero i test e j l u = absurd (omega arith)
each_ok (suc n) i test e j l u = go (eqb i j) refl (each_ok n (i + 1) test (both_right (test i) (each_from n (i + 1) test) e) j)
  where
    go : (b : Bool) → eqb i j ≡ b → (i + 1 ≤ j → j < i + 1 + n → test j ≡ true) → test j ≡ true
    go true x ih = let y : i ≡ j = eqb-true i j x in rw (← y) (both_left (test i) (each_from n (i + 1) test) e)
    go false x ih =
        let y : (i ≡ j → ⊥) = eqb-false i j x in
        ih (omega (arith, y)) (omega arith)

pub all_ok : (n i : ℕ) (test : ℕ → Bool) → ((j : ℕ) → i ≤ j → j < i + n → test j ≡ true) → each_from n i test ≡ true
unfolding each_from
all_ok zero i test f = refl
all_ok (suc n) i test f =
    let h : test i ≡ true = f i (omega arith) (omega arith) in
    rw (h, all_ok n (i + 1) test (λ j l u. f j (omega arith) (omega arith)))
