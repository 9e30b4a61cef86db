-- How far a number of 32 bits is from 0, as the machine finds it, and its text. Assumes nothing.
use mathlib.Core.Path.{◌≡◌, refl, sym, ap, subst, ◌∙◌}
use mathlib.Core.Bool.{true, false}
use mathlib.Core.List.{◌∷◌}
use Prim.Native.Nat.{ℕ, suc, ◌<◌}
use native.Mathlib.Nat.{zero-add}
use native.Mathlib.Omega.{arith}
use lib.IntN.{ℤ, pos, negsuc, ◌-ℤ◌, nat_abs}
use lib.Signed.{lt_z, non_neg, mag}
use lib.Dec.{T}
use borrow.Author.Tests.{ltb-true}
use mir.Syntax.{w32, w64}
use mir.Val.{of_z, to_z, SFits, Fits}
use mir.ValLaws.{to_z-of_z}
use Rattle.print.specs.Texts.{decimal_text, signed_text}

wider : (z : ℤ) → SFits w32 z → SFits w64 z
wider z h = record { sfits = omega (arith, h.sfits) }

far : (z : ℤ) → SFits w32 z → nat_abs z < 2147483649
far (pos n) h = omega (arith, h.sfits)
far (negsuc n) h = omega (arith, h.sfits)

fits64 : (n : ℕ) → n < 2147483649 → SFits w64 (pos n)
fits64 n h = record { sfits = omega arith }

-- a negative number taken from 0
from_zero : (z : ℤ) → lt_z z (pos 0) ≡ true → pos 0 -ℤ z ≡ pos (nat_abs z)
from_zero (pos n) t = absurd (omega (arith, ltb-true n 0 t))
from_zero (negsuc n) t = ap pos (zero-add (suc n))

above : (z : ℤ) → lt_z z (pos 0) ≡ false → z ≡ pos (nat_abs z)
above (pos n) t = refl
above (negsuc n) t = let e : ◌≡◌ {A = ℕ} 0 1 = cc in absurd (omega arith)

castable : (y : ℤ) (n : ℕ) → y ≡ pos n → n < 2147483649 → T (non_neg y) × Fits w64 (nat_abs y)
castable y n e h = subst (λ (x : ℤ). T (non_neg x) × Fits w64 (nat_abs x)) (sym e) (tt, record { fits = omega arith })

text_below : (z : ℤ) → lt_z z (pos 0) ≡ true → 45 ∷ decimal_text (nat_abs z) ≡ signed_text z
unfolding signed_text
text_below (pos n) t = absurd (omega (arith, ltb-true n 0 t))
text_below (negsuc n) t = refl

text_above : (z : ℤ) → lt_z z (pos 0) ≡ false → decimal_text (nat_abs z) ≡ signed_text z
unfolding signed_text
text_above (pos n) t = refl
text_above (negsuc n) t = let e : ◌≡◌ {A = ℕ} 0 1 = cc in absurd (omega arith)

-- a number of 32 bits, read back from its bits
pub read_back : (z : ℤ) → mag z < 2147483648 → to_z w32 (of_z w32 z) ≡ z
read_back z h = to_z-of_z w32 z (record { sfits = h })

-- as the machine has it: each number is read back from its bits
module _ (z : ℤ) (h : SFits w32 z) where
  same32 : to_z w32 (of_z w32 z) ≡ z
  same32 = to_z-of_z w32 z h

  same64 : to_z w64 (of_z w64 (to_z w32 (of_z w32 z))) ≡ z
  same64 = ap (λ (y : ℤ). to_z w64 (of_z w64 y)) same32 ∙ to_z-of_z w64 z (wider z h)

  pub wide : SFits w64 (to_z w32 (of_z w32 z))
  wide = subst (λ (y : ℤ). SFits w64 y) (sym same32) (wider z h)

  module _ (t : lt_z (to_z w32 (of_z w32 z)) (pos 0) ≡ true) where
    below : lt_z z (pos 0) ≡ true
    below = subst (λ (y : ℤ). lt_z y (pos 0) ≡ true) same32 t

    less : pos 0 -ℤ to_z w64 (of_z w64 (to_z w32 (of_z w32 z))) ≡ pos (nat_abs z)
    less = ap (λ (y : ℤ). pos 0 -ℤ y) same64 ∙ from_zero z below

    pub less_fits : SFits w64 (pos 0 -ℤ to_z w64 (of_z w64 (to_z w32 (of_z w32 z))))
    less_fits = subst (λ (y : ℤ). SFits w64 y) (sym less) (fits64 (nat_abs z) (far z h))

    pub less_back : to_z w64 (of_z w64 (pos 0 -ℤ to_z w64 (of_z w64 (to_z w32 (of_z w32 z))))) ≡ pos (nat_abs z)
    less_back = to_z-of_z w64 (pos 0 -ℤ to_z w64 (of_z w64 (to_z w32 (of_z w32 z)))) less_fits ∙ less

    pub less_castable : T (non_neg (to_z w64 (of_z w64 (pos 0 -ℤ to_z w64 (of_z w64 (to_z w32 (of_z w32 z)))))))
        × Fits w64 (nat_abs (to_z w64 (of_z w64 (pos 0 -ℤ to_z w64 (of_z w64 (to_z w32 (of_z w32 z)))))))
    less_castable = castable _ (nat_abs z) less_back (far z h)

    pub negative_text : (m : ℕ) → m ≡ nat_abs (to_z w32 (of_z w32 z)) → 45 ∷ decimal_text m ≡ signed_text z
    negative_text m e = ap (λ (n : ℕ). 45 ∷ decimal_text n) (e ∙ ap nat_abs same32) ∙ text_below z below

  module _ (t : lt_z (to_z w32 (of_z w32 z)) (pos 0) ≡ false) where
    least : lt_z z (pos 0) ≡ false
    least = subst (λ (y : ℤ). lt_z y (pos 0) ≡ false) same32 t

    pub same_castable : T (non_neg (to_z w32 (of_z w32 z))) × Fits w64 (nat_abs (to_z w32 (of_z w32 z)))
    same_castable = castable _ (nat_abs z) (same32 ∙ above z least) (far z h)

    pub plain_text : (m : ℕ) → m ≡ nat_abs (to_z w32 (of_z w32 z)) → decimal_text m ≡ signed_text z
    plain_text m e = ap decimal_text (e ∙ ap nat_abs same32) ∙ text_above z least
