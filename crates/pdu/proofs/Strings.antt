-- Strings one after the other: where they stand, and that they are found there. Assumes nothing.
use mathlib.Core.Path.{◌≡◌, refl, sym, ap, ◌∙◌}
use mathlib.Core.Bool.{true}
use mathlib.Core.List.{List, [], ◌∷◌, ◌++◌, append_assoc, append-nil, map}
use Prim.Native.Nat.{ℕ, ◌+◌, ◌≤◌}
use native.Mathlib.Omega.{arith}
use lib.ListN.{length, drop, replicate, length-append}
use lib.Seq.{drop-length}
use borrow.Author.Tests.{leb-true, le-leb}
use Rattle.wire.specs.Parts.{slice, splice}
use Rattle.wire.proofs.Tests.{both_left, both_right}
use Rattle.wire.proofs.Parts.{length_slice, length_splice, slice_cut, slice_mid, splice_start}
use Rattle.pdu.specs.declared.Span.{Span}
use Rattle.pdu.specs.Records.{span}
use Rattle.pdu.specs.Writing.{part_of, lies, all_lie, zeros, joined}

-- places of strings of these lengths, one after the other from index n on
abbrev pub spans_from : ℕ → List ℕ → List Span
spans_from n [] = []
spans_from n (l ∷ ls) = span n l ∷ spans_from (n + l) ls

abbrev pub sum : List ℕ → ℕ
sum [] = 0
sum (l ∷ ls) = l + sum ls

abbrev pub parts : List ℕ → List Span → List (List ℕ)
parts src ts = map (λ (t : Span). part_of src t) ts

-- the strings behind h are found at these places
pub parts_back : (xs : List (List ℕ)) (h : List ℕ) (n : ℕ) → length h ≡ n → parts (h ++ joined xs) (spans_from n (map length xs)) ≡ xs
unfolding joined
parts_back [] h n e = refl
parts_back (x ∷ xs) h n e =
    let here : slice (h ++ (x ++ joined xs)) n (length x) ≡ x = slice_mid h x (joined xs) n (length x) e refl in
    let l : length (h ++ x) ≡ n + length x = simp length-append (omega arith) in
    let rest : parts (h ++ (x ++ joined xs)) (spans_from (n + length x) (map length xs)) ≡ xs =
    ap (λ (m : List ℕ). parts m (spans_from (n + length x) (map length xs))) (sym (append_assoc h x (joined xs))) ∙ parts_back xs (h ++ x) (n + length x) l in
    rw (here, rest)

-- what stands at these places, joined, is the end of the list
pub parts_join : (ls : List ℕ) (b : List ℕ) (n : ℕ) → n + sum ls ≡ length b → joined (parts b (spans_from n ls)) ≡ drop n b
unfolding joined
parts_join [] b n e = let z : n ≡ length b = omega (arith, e) in rw z (sym (drop-length b))
parts_join (l ∷ ls) b n e = rw (parts_join ls b (n + l) (omega (arith, e))) (slice_cut b n l)

-- places one after the other that end within m bytes
pub all_lie_lem : (ls : List ℕ) (n m : ℕ) → n + sum ls ≤ m → all_lie m (spans_from n ls) ≡ true
all_lie_lem [] n m h = refl
all_lie_lem (l ∷ ls) n m h = rw (le-leb (n + l) m (omega arith)) (all_lie_lem ls (n + l) m (omega arith))

-- ---- places in src

-- the lengths of the strings at these places
abbrev pub lens : List Span → List ℕ
lens [] = []
lens (t ∷ ts) = t.len ∷ lens ts

pub lens_lie : (ts : List Span) (src : List ℕ) → all_lie (length src) ts ≡ true → map length (parts src ts) ≡ lens ts
lens_lie [] src h = refl
lens_lie (t ∷ ts) src h =
    let a = leb-true (t.at + t.len) (length src) (both_left (lies (length src) t) (all_lie (length src) ts) h) in
    rw (length_slice src t.at t.len a, lens_lie ts src (both_right (lies (length src) t) (all_lie (length src) ts) h))

pub length_joined : (xs : List (List ℕ)) → length (joined xs) ≡ sum (map length xs)
unfolding joined
length_joined [] = refl
length_joined (x ∷ xs) = length-append x (joined xs) ∙ ap (λ (k : ℕ). length x + k) (length_joined xs)

-- ---- an application id with zeros to the end

pub length_zeros : length zeros ≡ 520
unfolding zeros
length_zeros = refl

pub length_filled : (x : List ℕ) → length x ≤ 520 → length (splice zeros 0 x) ≡ 520
length_filled x h = length_splice zeros 0 x (omega (arith, length_zeros)) ∙ length_zeros

pub filled_whole : (z : List ℕ) → length z ≡ 520 → splice zeros 0 z ≡ z
unfolding zeros
filled_whole z e = splice_start (replicate 520 0) z ∙ rw e (append-nil z)
