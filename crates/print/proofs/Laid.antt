-- Laws of text laid in a memory: of none, of what fits, and of one text after another. Assumes nothing.
use mathlib.Core.Path.{◌≡◌, refl, sym, ap, subst, ◌∙◌}
use mathlib.Core.Bool.{Bool, true, false}
use mathlib.Core.List.{List, [], ◌∷◌, ◌++◌}
use Prim.Native.Nat.{ℕ, ◌+◌, ◌-◌, ◌<◌, ◌≤◌, min}
use native.Mathlib.Nat.{add-zero}
use native.Mathlib.Omega.{arith}
use lib.Dec.{eqb, leb}
use lib.ListN.{length, set, take, length-append, length-take}
use lib.Seq.{take_all, take-nil, take-append-le, take-append-add}
use borrow.Author.Tests.{leb-true, leb-false, ne_eqb}
use Rattle.wire.specs.Tests.{pick}
use Rattle.wire.specs.Parts.{slice, splice}
use Rattle.wire.proofs.Parts.{length_splice, splice_nil, splice_after, set_splice}
use Rattle.print.specs.Laid.{fitting, laid, after, Laid}

-- past the end nothing is laid
pub none_fits : (d : List ℕ) (at : ℕ) (s : List ℕ) → length d ≤ at → Laid d at s d at
unfolding laid after fitting
none_fits d at s h =
    let e : length d - at ≡ 0 = omega arith in
    record { memory = rw e (sym (splice_nil d at)); place = rw e (sym (add-zero at)) }

-- no text
pub nothing : (d : List ℕ) (at : ℕ) → Laid d at [] d at
unfolding laid after fitting
nothing d at = record { memory = rw take-nil (sym (splice_nil d at)); place = rw take-nil (sym (add-zero at)) }

-- what has room is laid whole
pub whole_fits : (d : List ℕ) (at : ℕ) (s x : List ℕ) → at + length s ≤ length d → x ≡ splice d at s → Laid d at s x (at + length s)
unfolding laid after fitting
whole_fits d at s x h e =
    let t : take (length d - at) s ≡ s = take_all (length d - at) s (omega arith) in
    record { memory = rw t e; place = rw t refl }

-- the same text, told otherwise
pub as_text : {d x s t : List ℕ} {at n : ℕ} → s ≡ t → Laid d at s x n → Laid d at t x n
as_text {d} {x} {s} {t} {at} {n} e l = subst (λ (u : List ℕ). Laid d at u x n) e l

-- one byte
pub byte_laid : (d : List ℕ) (at b : ℕ) → at < length d → Laid d at (b ∷ []) (set d at b) (at + 1)
byte_laid d at b h = whole_fits d at (b ∷ []) (set d at b) (omega arith) (set_splice d at b h)

-- the first of a text, as much of it as there is room for
pub cut_laid : (d : List ℕ) (at : ℕ) (s x : List ℕ) (n : ℕ) → at ≤ length d → n ≡ min (length s) (length d - at) → x ≡ splice d at (slice s 0 n) → Laid d at s x (at + n)
unfolding laid after fitting slice
cut_laid d at s x n h m e = go (leb (length s) (length d - at)) refl
  where
    go : (t : Bool) → leb (length s) (length d - at) ≡ t → Laid d at s x (at + n)
    go true t =
        let l = leb-true (length s) (length d - at) t in
        let en : n ≡ length s = omega arith in
        let e1 : take n s ≡ s = take_all n s (omega arith) in
        let e2 : take (length d - at) s ≡ s = take_all (length d - at) s (omega arith) in
        record { memory = e ∙ ap (splice d at) (e1 ∙ sym e2); place = ap (λ (k : ℕ). at + k) (en ∙ ap length (sym e2)) }
    go false t =
        let l = leb-false (length s) (length d - at) t in
        let en : n ≡ length d - at = omega arith in
        let lt : length (take n s) ≡ n = simp length-take (omega arith) in
        record { memory = e ∙ ap (λ (k : ℕ). splice d at (take k s)) en; place = ap (λ (k : ℕ). at + k) (sym lt ∙ ap (λ (k : ℕ). length (take k s)) en) }

-- ---- one text after another

take_append : (k : ℕ) (s t : List ℕ) → take k (s ++ t) ≡ take k s ++ take (k - length (take k s)) t
take_append k s t = go (leb (length s) k) refl
  where
    go : (b : Bool) → leb (length s) k ≡ b → take k (s ++ t) ≡ take k s ++ take (k - length (take k s)) t
    go true b =
        let l = leb-true (length s) k b in
        let e : k ≡ length s + (k - length s) = omega arith in
        let f : take k s ≡ s = take_all k s l in
        rw f (ap (λ (n : ℕ). take n (s ++ t)) e ∙ take-append-add s t (k - length s))
    go false b =
        let l = leb-false (length s) k b in
        let f : length (take k s) ≡ k = simp length-take (omega arith) in
        let z : k - k ≡ 0 = omega arith in
        rw (f, z) (take-append-le k s t (omega arith) ∙ sym (nil (take k s)))
      where
        nil : (xs : List ℕ) → xs ++ [] ≡ xs
        nil [] = refl
        nil (x ∷ xs) = ap (λ (y : List ℕ). x ∷ y) (nil xs)

module _ (d x y s t : List ℕ) (at n m : ℕ) (l : Laid d at s x n) (k : Laid x n t y m) where
  -- with a place past the end nothing is laid
  past : length d < at → Laid d at (s ++ t) y m
  unfolding laid after fitting
  past h =
      let z : length d - at ≡ 0 = omega arith in
      let ex : x ≡ d = l.memory ∙ ap (λ (i : ℕ). splice d at (take i s)) z ∙ splice_nil d at in
      let en : n ≡ at = l.place ∙ ap (λ (i : ℕ). at + length (take i s)) z ∙ add-zero at in
      let lx : length x ≡ length d = ap length ex in
      let zx : length x - n ≡ 0 = omega arith in
      let ey : y ≡ d = k.memory ∙ ap (λ (i : ℕ). splice x n (take i t)) zx ∙ splice_nil x n ∙ ex in
      let em : m ≡ at = k.place ∙ ap (λ (i : ℕ). n + length (take i t)) zx ∙ add-zero n ∙ en in
      record { memory = rw z (ey ∙ sym (splice_nil d at)); place = rw z (em ∙ sym (add-zero at)) }

  within : at ≤ length d → Laid d at (s ++ t) y m
  unfolding laid after fitting
  within h =
      let f = take (length d - at) s in
      let lf : length f ≡ min (length d - at) (length s) = length-take (length d - at) s in
      let fits : at + length f ≤ length d = omega arith in
      let lx : length x ≡ length d = ap length l.memory ∙ length_splice d at f fits in
      let en : n ≡ at + length f = l.place in
      let left : length x - n ≡ length d - at - length f = omega arith in
      let g = take (length d - at - length f) t in
      let lg : length g ≡ min (length d - at - length f) (length t) = length-take (length d - at - length f) t in
      let both : take (length d - at) (s ++ t) ≡ f ++ g = take_append (length d - at) s t in
      record {
        memory =
            k.memory ∙ ap (λ (i : ℕ). splice x n (take i t)) left ∙ ap (λ (b : List ℕ). splice b n g) l.memory
            ∙ splice_after d at f g n en (omega arith) ∙ ap (splice d at) (sym both);
        place =
            k.place ∙ ap (λ (i : ℕ). n + length (take i t)) left
            ∙ (let q : n + length g ≡ at + length (f ++ g) = simp length-append (omega arith) in q)
            ∙ ap (λ (b : List ℕ). at + length b) (sym both);
      }

pub then : {d x y s t : List ℕ} {at n m : ℕ} → Laid d at s x n → Laid x n t y m → Laid d at (s ++ t) y m
then {d} {x} {y} {s} {t} {at} {n} {m} l k = go (leb at (length d)) refl
  where
    go : (b : Bool) → leb at (length d) ≡ b → Laid d at (s ++ t) y m
    go true b = within d x y s t at n m l k (leb-true at (length d) b)
    go false b = past d x y s t at n m l k (leb-false at (length d) b)

-- ---- the byte that parts the entries of a list

pub first_entry : (d : List ℕ) (at part : ℕ) {i : ℕ} → i ≡ 0 → Laid d at (pick (eqb i 0) [] (part ∷ [])) d at
first_entry d at part {i} e = as_text (sym (rw e refl)) (nothing d at)

pub later_entry : {d x : List ℕ} {at n part i : ℕ} → (i ≡ 0 → ⊥) → Laid d at (part ∷ []) x n → Laid d at (pick (eqb i 0) [] (part ∷ [])) x n
later_entry {i = i} h l = as_text (sym (rw (ne_eqb i 0 h) refl)) l
