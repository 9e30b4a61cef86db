-- Laws of templates: what a byte stands for, and the text of the bytes that are left. Assumes nothing.
use mathlib.Core.Path.{◌≡◌, refl, sym}
use mathlib.Core.List.{List, [], ◌∷◌}
use Prim.Native.Nat.{ℕ, ◌+◌, ◌<◌, ◌≤◌}
use native.Mathlib.Numerals.{add-one}
use lib.ListN.{length, get_or, drop, drop_of_length-le}
use lib.Seq.{drop-cons}
use lib.IntN.{ℤ, pos}
use borrow.Author.Tests.{ne_eqb}
use Rattle.print.specs.Laid.{Laid}
use Rattle.print.specs.Texts.{decimal_text, signed_text}
use Rattle.print.specs.Templates.{number_mark, signed_mark, stands_for, next_after, fill_from, fill_text}
use Rattle.print.proofs.Laid.{as_text, then, nothing}

-- ---- what a byte stands for

module _ {d x : List ℕ} {at n b : ℕ} (v : ℕ) (z : ℤ) where
  pub a_number : b ≡ number_mark → Laid d at (decimal_text v) x n → Laid d at (stands_for b v z) x n
  unfolding stands_for
  a_number e l = as_text (sym (rw e refl)) l

  pub a_signed : (b ≡ number_mark → ⊥) → b ≡ signed_mark → Laid d at (signed_text z) x n → Laid d at (stands_for b v z) x n
  unfolding stands_for
  a_signed h e l = as_text (sym (rw e refl)) l

  pub a_byte : (b ≡ number_mark → ⊥) → (b ≡ signed_mark → ⊥) → Laid d at (b ∷ []) x n → Laid d at (stands_for b v z) x n
  unfolding stands_for
  a_byte h i l = as_text (sym (rw (ne_eqb b number_mark h, ne_eqb b signed_mark i) refl)) l

-- ---- the bytes that are left

-- whatever lays the text of the bytes left from index i on, with the numbers left, lays all of it
abbrev pub Left : (t ns : List ℕ) (zs : List ℤ) (d : List ℕ) (at : ℕ) (x : List ℕ) (n k j i : ℕ) → Type 0
Left t ns zs d at x n k j i = (y : List ℕ) (m : ℕ) → Laid x n (fill_from (drop i t) ns zs k j) y m → Laid d at (fill_text t ns zs) y m

module _ (t ns : List ℕ) (zs : List ℤ) (d : List ℕ) (at : ℕ) where
  pub all_left : Left t ns zs d at d at 0 0 0
  unfolding fill_text
  all_left y m l = l

  module _ (x : List ℕ) (n k j i : ℕ) (w : Left t ns zs d at x n k j i) where
    pub next_left : {y : List ℕ} {m b k' j' : ℕ} (v : ℕ) (z : ℤ) → i < length t → b ≡ get_or t i 0 → v ≡ get_or ns k 0 → z ≡ get_or zs j (pos 0)
        → Laid x n (stands_for b v z) y m → k' ≡ next_after k b number_mark → j' ≡ next_after j b signed_mark → Left t ns zs d at y m k' j' (i + 1)
    unfolding fill_from
    next_left {b = b} v z h eb ev ez l ek ej y' m' l' =
        w y' m' (as_text (sym (rw (drop-cons t i 0 h, add-one i, ← eb, ← ev, ← ez, ek, ej) refl)) (then l l'))

    pub none_left : length t ≤ i → Laid d at (fill_text t ns zs) x n
    unfolding fill_from
    none_left h = w x n (as_text (sym (rw (drop_of_length-le t {i = i} h) refl)) (nothing x n))
