-- Laws of a text that a test chooses. Assumes nothing.
use mathlib.Core.Path.{◌≡◌, refl, sym, ap}
use mathlib.Core.Bool.{Bool, true, false}
use mathlib.Core.List.{List, [], ◌++◌}
use Prim.Native.Nat.{ℕ}
use lib.Dec.{eqb}
use borrow.Author.Tests.{ne_eqb}
use Rattle.wire.specs.Tests.{pick}
use Rattle.print.specs.Laid.{Laid}
use Rattle.print.proofs.Laid.{as_text, then, nothing}

module _ {d x : List ℕ} {at n : ℕ} where
  -- the first of two texts, and the second
  pub first : (b : Bool) (s t : List ℕ) → b ≡ true → Laid d at s x n → Laid d at (pick b s t) x n
  first b s t e l = as_text (sym (ap (λ (c : Bool). pick c s t) e)) l

  pub second : (b : Bool) (s t : List ℕ) → b ≡ false → Laid d at t x n → Laid d at (pick b s t) x n
  second b s t e l = as_text (sym (ap (λ (c : Bool). pick c s t) e)) l

  -- nothing, or a text that goes on
  pub stays : {s : List ℕ} (b : Bool) (t : List ℕ) → b ≡ true → Laid d at s x n → Laid d at (s ++ pick b [] t) x n
  stays b t e l = then l (as_text (sym (ap (λ (c : Bool). pick c [] t) e)) (nothing x n))

  module _ {s : List ℕ} (k : ℕ) (t : List ℕ) where
    -- a text that goes on only where the number is 0
    pub goes_on : {y : List ℕ} {m : ℕ} → k ≡ 0 → Laid d at s x n → Laid x n t y m → Laid d at (s ++ pick (eqb k 0) t []) y m
    goes_on e l r = then l (as_text (sym (rw e refl)) r)

    pub ends : (k ≡ 0 → ⊥) → Laid d at s x n → Laid d at (s ++ pick (eqb k 0) t []) x n
    ends h l = then l (as_text (sym (rw (ne_eqb k 0 h) refl)) (nothing x n))
