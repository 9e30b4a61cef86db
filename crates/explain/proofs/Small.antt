-- Number and offset of an explanation are small. Assumes nothing.
use mathlib.Core.Path.{◌≡◌, refl, sym, ◌∙◌}
use mathlib.Core.Bool.{Bool, true, false, not}
use mathlib.Core.List.{List, [], ◌∷◌}
use Prim.Native.Nat.{ℕ, ◌+◌, ◌≤◌}
use native.Mathlib.Omega.{arith}
use lib.Dec.{eqb, leb}
use lib.ListN.{length}
use borrow.Author.Tests.{leb-true, ltb-false, eqb-true, not-false}
use Rattle.wire.specs.Tests.{pick, either, any}
use Rattle.wire.specs.Numbers.{num_at, Bytes}
use Rattle.wire.proofs.Numbers.{num2_is}
use Rattle.journal.specs.View.{Memory, meets_rule}
use Rattle.explain.specs.Fields.{Field, end_of, all_fit, first_cut, first_outside, fields_of}
use Rattle.explain.specs.Explain.{offset_of, explain}
use Rattle.explain.specs.Conditions.{too_few, other_size, no_order, unlisted, clashing, unfilled, Condition, condition, conditions}
use Rattle.explain.proofs.Walks.{end_on}
use Rattle.explain.proofs.Named.{first_of, told_first}

-- ---- the number

unfoldable AllLow : List Condition → Type 0
AllLow [] = Unit {0}
AllLow (c ∷ cs) = (c.number ≤ 17) × AllLow cs

first_low : (cs : List Condition) → AllLow cs → first_of cs ≤ 17
unfolding first_of AllLow
first_low [] l = omega arith
first_low (c ∷ cs) l = go c.holds (first_low cs l.1)
  where
    go : (t : Bool) → first_of cs ≤ 17 → pick t c.number (first_of cs) ≤ 17
    go true ih = l.0
    go false ih = ih

-- ---- the offset

cut_within : (n at : ℕ) (fs : List Field) → at ≤ n → first_cut n at fs ≤ n
unfolding first_cut
cut_within n at [] l = l
cut_within n at (f ∷ fs) l = go (leb (at + f.width) n) refl (cut_within n (at + f.width) fs)
  where
    go : (t : Bool) → leb (at + f.width) n ≡ t → (at + f.width ≤ n → first_cut n (at + f.width) fs ≤ n) → pick t (first_cut n (at + f.width) fs) at ≤ n
    go true e ih = ih (leb-true (at + f.width) n e)
    go false e ih = l

outside_within : (at : ℕ) (fs : List Field) → first_outside at fs ≤ end_of at fs
unfolding first_outside end_of
outside_within at [] = omega arith
outside_within at (f ∷ fs) = go f.in_set (outside_within (at + f.width) fs)
  where
    go : (t : Bool) → first_outside (at + f.width) fs ≤ end_of (at + f.width) fs → pick t (first_outside (at + f.width) fs) at ≤ end_of (at + f.width) fs
    go true ih = ih
    go false ih = omega (arith, end_on (at + f.width) fs)

offset_low : (n : ℕ) (s : List ℕ) → (n ≡ 7 → first_cut (length s) 7 (fields_of s) ≤ 65535) → (n ≡ 8 → first_outside 7 (fields_of s) ≤ 65535) → offset_of n s ≤ 65535
unfolding offset_of
offset_low n s f g =
    go (any (eqb n 0 ∷ eqb n 1 ∷ eqb n 2 ∷ [])) (eqb n 3) (eqb n 4) (eqb (num_at 1 s 0) 0x2E) (either (eqb n 5) (eqb n 6)) (eqb n 7) (eqb n 8) refl refl
  where
    go : (a b c d e x y : Bool) → eqb n 7 ≡ x → eqb n 8 ≡ y
        → pick a 0 (pick b 1 (pick c (pick d 3 0) (pick e 3 (pick x (first_cut (length s) 7 (fields_of s)) (pick y (first_outside 7 (fields_of s)) 7))))) ≤ 65535
    go true b c d e x y i j = omega arith
    go false true c d e x y i j = omega arith
    go false false true true e x y i j = omega arith
    go false false true false e x y i j = omega arith
    go false false false d true x y i j = omega arith
    go false false false d false true y i j = f (eqb-true n 7 i)
    go false false false d false false true i j = g (eqb-true n 8 j)
    go false false false d false false false i j = omega arith

-- a condition that is not the one named is false
past : (n : ℕ) (t : Bool) (cs : List Condition) (k : ℕ) → (n ≡ k → ⊥) → first_of (condition n t ∷ cs) ≡ k → (t ≡ false) × (first_of cs ≡ k)
unfolding first_of
past n true cs k h e = absurd (h e)
past n false cs k h e = (refl, e)

fills_end : (s : List ℕ) → unfilled s ≡ false → end_of 7 (fields_of s) ≡ length s
unfolding unfilled
fills_end s h = go (not (all_fit (length s) 7 (fields_of s))) (eqb (end_of 7 (fields_of s)) (length s)) refl h
  where
    go : (a c : Bool) → eqb (end_of 7 (fields_of s)) (length s) ≡ c → either a (not c) ≡ false → end_of 7 (fields_of s) ≡ length s
    go a true i h = eqb-true (end_of 7 (fields_of s)) (length s) i
    go true false i h = let z : ◌≡◌ {A = ℕ} 0 1 = cc in absurd (omega arith)
    go false false i h = let z : ◌≡◌ {A = ℕ} 0 1 = cc in absurd (omega arith)

-- an order that meets 7 or 8 has its declared length
module _ (s : List ℕ) (b : Bytes s) where
  size_low : other_size s ≡ false → length s ≤ 65535
  size_low h = omega (arith, eqb-true (num_at 2 s 1) (length s) (not-false (eqb (num_at 2 s 1) (length s)) h), num2_is s 1, b.small 1, b.small 2)

  module _ (m : Memory) where
    sized : (k : ℕ) → 7 ≤ k → first_of (conditions m s) ≡ k → (7 ≤ length s) × (length s ≤ 65535)
    sized k l e =
        let p1 = past 1 (not (meets_rule m)) _ k (λ z. omega arith) e in
        let p2 = past 2 (too_few s) _ k (λ z. omega arith) p1.1 in
        let p3 = past 3 (other_size s) _ k (λ z. omega arith) p2.1 in
        (ltb-false (length s) 7 p2.0, size_low p3.0)

    filled : first_of (conditions m s) ≡ 8 → end_of 7 (fields_of s) ≡ length s
    filled e =
        let p1 = past 1 (not (meets_rule m)) _ 8 (λ z. omega arith) e in
        let p2 = past 2 (too_few s) _ 8 (λ z. omega arith) p1.1 in
        let p3 = past 3 (other_size s) _ 8 (λ z. omega arith) p2.1 in
        let p4 = past 4 (no_order s) _ 8 (λ z. omega arith) p3.1 in
        let p5 = past 5 (unlisted s) _ 8 (λ z. omega arith) p4.1 in
        let p6 = past 6 (clashing s) _ 8 (λ z. omega arith) p5.1 in
        let p7 = past 7 (unfilled s) _ 8 (λ z. omega arith) p6.1 in
        fills_end s p7.0

    pub number_low : (explain s m).number ≤ 17
    unfolding AllLow
    number_low = rw (told_first m s b) (first_low (conditions m s) (omega arith, (omega arith, (omega arith, (omega arith, (omega arith, (omega arith, (omega arith, (omega arith, (omega arith, (omega arith, (omega arith, (omega arith, (omega arith, tt))))))))))))))

    pub at_low : (explain s m).at ≤ 65535
    unfolding explain
    at_low =
        offset_low (explain s m).number s
        (λ e. let k = sized 7 (omega arith) (sym (told_first m s b) ∙ e) in omega (arith, cut_within (length s) 7 (fields_of s) k.0, k.1))
        (λ e.
        let k = sized 8 (omega arith) (sym (told_first m s b) ∙ e) in
        omega (arith, outside_within 7 (fields_of s), filled (sym (told_first m s b) ∙ e), k.1))
