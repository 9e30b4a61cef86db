-- Cutting an update: where its first order ends, the orders from there on, and that no byte is dropped. Assumes nothing.
use Prim.Native.Nat.{ℕ, zero, suc, ◌+◌, ◌-◌, ◌≤◌, ◌<◌}
use mathlib.Core.Path.{◌≡◌, refl, sym, ap, ◌∙◌}
use mathlib.Core.Bool.{Bool, true, false}
use mathlib.Core.List.{List, [], ◌∷◌, ◌++◌, flatten}
use native.Mathlib.Omega.{arith}
use lib.Dec.{eqb, ltb}
use lib.ListN.{length, take, drop, length-drop, take-append-drop}
use lib.Seq.{drop-drop}
use borrow.Author.Tests.{eqb-true, ne_eqb, lt-ltb, le-ltb, ltb-false}
use Rattle.wire.specs.Tests.{pick, either}
use Rattle.wire.specs.Numbers.{num_at}
use Rattle.wire.proofs.Numbers.{num_drop}
use Rattle.update.specs.Update.{head_size, fewest, order_size, is_rest, first_size, cut_from, orders_of, CutWhole}
use Rattle.wire.proofs.Tests.{neither}

-- ---- where the order at index at ends

module _ (s : List ℕ) (at : ℕ) (within : at ≤ length s) where
  pub ends_missing : length s - at < head_size → length s ≡ at + first_size (drop at s)
  unfolding first_size
  ends_missing h =
      let l = length-drop at s in
      let x : ltb (length (drop at s)) head_size ≡ true = lt-ltb (length (drop at s)) head_size (omega (arith, l)) in
      rw x (omega (arith, l))

  module _ (whole : head_size ≤ length s - at) {size : ℕ} (is : size ≡ num_at 2 s (at + 1)) where
    rest_is : is_rest (drop at s) ≡ either (ltb size fewest) (ltb (length s - at) size)
    rest_is =
        let l = length-drop at s in
        let x : ltb (length (drop at s)) head_size ≡ false = le-ltb (length (drop at s)) head_size (omega (arith, l)) in
        let z : order_size (drop at s) ≡ size = num_drop 2 at 1 s ∙ sym is in
        rw (x, z, l)

    pub ends_rest : either (ltb size fewest) (ltb (length s - at) size) ≡ true → length s ≡ at + first_size (drop at s)
    unfolding first_size
    ends_rest t = let x : is_rest (drop at s) ≡ true = rest_is ∙ t in rw x (omega (arith, length-drop at s))

    pub ends_sized : either (ltb size fewest) (ltb (length s - at) size) ≡ false → at + size ≡ at + first_size (drop at s)
    unfolding first_size
    ends_sized t =
        let x : is_rest (drop at s) ≡ false = rest_is ∙ t in
        let z : order_size (drop at s) ≡ size = num_drop 2 at 1 s ∙ sym is in
        rw (x, z)

-- it has a byte, and it ends within
pub first_within : (s : List ℕ) → 0 < length s → (0 < first_size s) × (first_size s ≤ length s)
unfolding first_size
first_within s some = go (is_rest s) refl
  where
    go : (t : Bool) → is_rest s ≡ t → (0 < pick t (length s) (order_size s)) × (pick t (length s) (order_size s) ≤ length s)
    go true e = (some, omega arith)
    go false e =
        let x = neither (ltb (length s) head_size) (either (ltb (order_size s) fewest) (ltb (length s) (order_size s))) e in
        let y = neither (ltb (order_size s) fewest) (ltb (length s) (order_size s)) x.1 in
        let a = ltb-false (order_size s) fewest y.0 in
        let b = ltb-false (length s) (order_size s) y.1 in
        (omega (arith, a), b)

-- ---- the orders from there on

pub cut_none : (f : ℕ) (s : List ℕ) → length s ≡ 0 → cut_from f s ≡ []
unfolding cut_from
cut_none zero s z = refl
cut_none (suc f) s z = rw z

pub cut_more_lem : (f : ℕ) (s : List ℕ) → 0 < length s → cut_from (suc f) s ≡ take (first_size s) s ∷ cut_from f (drop (first_size s) s)
unfolding cut_from
cut_more_lem f s some = let x : eqb (length s) 0 ≡ false = ne_eqb (length s) 0 (λ z. omega (arith, z)) in rw x

empty_is : (s : List ℕ) → length s ≡ 0 → [] ≡ s
empty_is [] z = refl
empty_is (b ∷ s) z = absurd (omega (arith, z))

some_is : (s : List ℕ) → eqb (length s) 0 ≡ false → 0 < length s
some_is [] e = let z : ◌≡◌ {A = ℕ} 0 1 = cc in absurd (omega arith)
some_is (b ∷ s) e = omega arith

-- at most f bytes are left with f orders to go
cut_flat : (f : ℕ) (s : List ℕ) → length s ≤ f → flatten (cut_from f s) ≡ s
unfolding cut_from flatten
cut_flat zero [] h = refl
cut_flat zero (b ∷ s) h = absurd (omega arith)
cut_flat (suc f) s h = go (eqb (length s) 0) refl (λ l. cut_flat f (drop (first_size s) s) l)
  where
    go : (t : Bool) → eqb (length s) 0 ≡ t → (length (drop (first_size s) s) ≤ f → flatten (cut_from f (drop (first_size s) s)) ≡ drop (first_size s) s)
        → flatten (pick t [] (take (first_size s) s ∷ cut_from f (drop (first_size s) s))) ≡ s
    go true e rest = empty_is s (eqb-true (length s) 0 e)
    go false e rest =
        let x = first_within s (some_is s e) in
        ap (λ (r : List ℕ). take (first_size s) s ++ r) (rest (omega (arith, length-drop (first_size s) s, x.0, h)))
        ∙ take-append-drop (first_size s) s

pub cut_whole : CutWhole
unfolding CutWhole orders_of
cut_whole s = cut_flat (length s) s (omega arith)

-- from index at on, with n of the f orders cut
pub cut_at : (s : List ℕ) (n at : ℕ) → n ≤ at → at < length s → {end : ℕ} → end ≡ at + first_size (drop at s)
    → cut_from (length s - n) (drop at s) ≡ take (end - at) (drop at s) ∷ cut_from (length s - (n + 1)) (drop end s)
cut_at s n at far more {end} e =
    let fuel : length s - n ≡ suc (length s - (n + 1)) = omega arith in
    let some : 0 < length (drop at s) = omega (arith, length-drop at s) in
    let size : first_size (drop at s) ≡ end - at = omega (arith, e) in
    let to : at + first_size (drop at s) ≡ end = sym e in
    ap (λ (f : ℕ). cut_from f (drop at s)) fuel
    ∙ cut_more_lem (length s - (n + 1)) (drop at s) some
    ∙ ap (λ (r : List ℕ). take (first_size (drop at s)) (drop at s) ∷ cut_from (length s - (n + 1)) r) (drop-drop (first_size (drop at s)) at s ∙ ap (λ (k : ℕ). drop k s) to)
    ∙ ap (λ (k : ℕ). take k (drop at s) ∷ cut_from (length s - (n + 1)) (drop end s)) size
