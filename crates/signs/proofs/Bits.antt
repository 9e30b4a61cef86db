-- Signed values as the machine has them: each is read back from its bits at every operation. Assumes nothing.
use mathlib.Core.Path.{◌≡◌, refl, sym, ap, ◌∙◌, subst}
use mathlib.Core.Bool.{Bool, true, false}
use Prim.Native.Nat.{ℕ, suc, ◌+◌, ◌-◌, ◌*◌, ◌%◌, ◌<◌, ◌≤◌, ◌^◌}
use native.Mathlib.Omega.{arith}
use lib.IntN.{ℤ, pos, negsuc, ◌+ℤ◌, ◌-ℤ◌, nat_abs}
use lib.Signed.{lt_z, non_neg, mag}
use lib.Dec.{T, ltb, leb}
use borrow.Author.Tests.{le-ltb, lt-ltb, ltb-true, ltb-false, leb-true, leb-false}
use mir.Syntax.{Width, w16, w32, w64}
use mir.Val.{of_z, to_z, SFits, Fits}
use mir.ValLaws.{to_z-of_z, to_z_pos}
use Rattle.wire.specs.Tests.{either}
use Rattle.signs.specs.TwosComplement.{signed, unsigned, holds}
use Rattle.signs.proofs.TwosComplement.{lower, upper, held, unsigned_small}

-- ---- a value to a number: where it is negative, k is added in a wider width b

module _ (a b : Width) (z : ℤ) (ha : SFits a z) (hb : SFits b z) where
  same : to_z a (of_z a z) ≡ z
  same = to_z-of_z a z ha

  pub wide_fits : SFits b (to_z a (of_z a z))
  wide_fits = subst (λ (y : ℤ). SFits b y) (sym same) hb

  same_wide : to_z b (of_z b (to_z a (of_z a z))) ≡ z
  same_wide = ap (λ (y : ℤ). to_z b (of_z b y)) same ∙ to_z-of_z b z hb

  pub negative : lt_z (to_z a (of_z a z)) (pos 0) ≡ true → lt_z z (pos 0) ≡ true
  negative t = subst (λ (y : ℤ). lt_z y (pos 0) ≡ true) same t

  module _ (k m : ℕ) (sum : z +ℤ pos k ≡ pos m) (fm : SFits b (pos m)) where
    added : to_z b (of_z b (to_z a (of_z a z))) +ℤ pos k ≡ pos m
    added = ap (λ (y : ℤ). y +ℤ pos k) same_wide ∙ sum

    pub added_fits : SFits b (to_z b (of_z b (to_z a (of_z a z))) +ℤ pos k)
    added_fits = subst (λ (y : ℤ). SFits b y) (sym added) fm

    pub added_back : to_z b (of_z b (to_z b (of_z b (to_z a (of_z a z))) +ℤ pos k)) ≡ pos m
    added_back = ap (λ (y : ℤ). to_z b (of_z b y)) added ∙ to_z-of_z b (pos m) fm

  pub kept : (w : ℕ) → lt_z (to_z a (of_z a z)) (pos 0) ≡ false → to_z a (of_z a z) ≡ pos (unsigned w z)
  unfolding unsigned
  kept w t = same ∙ go z (subst (λ (y : ℤ). lt_z y (pos 0) ≡ false) same t)
    where
      go : (y : ℤ) → lt_z y (pos 0) ≡ false → y ≡ pos (unsigned w y)
      go (pos n) u = refl
      go (negsuc n) u = let e : ◌≡◌ {A = ℕ} 0 1 = cc in absurd (omega arith)

-- a value that is a number of the width c can be cast to it
pub castable : (c : Width) (y : ℤ) (n : ℕ) → y ≡ pos n → Fits c n → T (non_neg y) × Fits c (nat_abs y)
castable c y n e h = subst (λ (x : ℤ). T (non_neg x) × Fits c (nat_abs x)) (sym e) (tt, h)

-- a negative value and 256 ^ w
pub sum : (w : ℕ) (z : ℤ) → lt_z z (pos 0) ≡ true → mag z < 256 ^ w → z +ℤ pos (256 ^ w) ≡ pos (unsigned w z)
unfolding unsigned
sum w (pos n) t h = absurd (omega (arith, ltb-true n 0 t))
sum w (negsuc n) t h = rw (le-ltb (256 ^ w) (suc n) (omega arith))

-- ---- a number to a value: from the upper half, k is taken in a wider width b

module _ (b c : Width) (n k : ℕ) (z : ℤ) (less : to_z b n -ℤ pos k ≡ z) (hb : SFits b z) (hc : SFits c z) where
  pub less_fits : SFits b (to_z b n -ℤ pos k)
  less_fits = subst (λ (y : ℤ). SFits b y) (sym less) hb

  less_back : to_z b (of_z b (to_z b n -ℤ pos k)) ≡ z
  less_back = to_z-of_z b (to_z b n -ℤ pos k) less_fits ∙ less

  pub back_fits : SFits c (to_z b (of_z b (to_z b n -ℤ pos k)))
  back_fits = subst (λ (y : ℤ). SFits c y) (sym less_back) hc

  pub back : to_z c (of_z c (to_z b (of_z b (to_z b n -ℤ pos k)))) ≡ z
  back = to_z-of_z c (to_z b (of_z b (to_z b n -ℤ pos k))) back_fits ∙ less_back

-- ---- the widths of 2 and 4 bytes

pub fits_16 : (z : ℤ) → holds 2 z ≡ true → SFits w16 z
unfolding holds
fits_16 z h = record { sfits = omega (arith, ltb-true (2 * mag z) 65536 h) }

pub holds_16 : (z : ℤ) → SFits w16 z → holds 2 z ≡ true
unfolding holds
holds_16 z h = lt-ltb (2 * mag z) 65536 (omega (arith, h.sfits))

pub fits_32 : (z : ℤ) → holds 4 z ≡ true → SFits w32 z
unfolding holds
fits_32 z h = record { sfits = omega (arith, ltb-true (2 * mag z) 4294967296 h) }

pub holds_32 : (z : ℤ) → SFits w32 z → holds 4 z ≡ true
unfolding holds
holds_32 z h = lt-ltb (2 * mag z) 4294967296 (omega (arith, h.sfits))

wider : (z : ℤ) → SFits w16 z → SFits w32 z
wider z h = record { sfits = omega (arith, h.sfits) }

widest : (z : ℤ) → SFits w32 z → SFits w64 z
widest z h = record { sfits = omega (arith, h.sfits) }

-- ---- a value of 2 bytes to a number of 4, as the function goes

pub record Numbered (b c : Width) (w : ℕ) (z : ℤ) : Type 0 where
  pub narrow : SFits w16 z
  pub wide : SFits b z
  pub sum_fits : SFits b (pos (unsigned w z))
  pub number_fits : Fits c (unsigned w z)
  pub below : mag z < 256 ^ w

pub word_numbered : (z : ℤ) → SFits w16 z → Numbered w64 w32 4 z
word_numbered z h =
    let u = unsigned_small 4 z (holds_32 z (wider z h)) in
    record { narrow = h; wide = widest z (wider z h); sum_fits = record { sfits = omega arith }; number_fits = record { fits = omega arith }; below = omega (arith, h.sfits) }

module _ (b c : Width) (w : ℕ) (z : ℤ) (g : Numbered b c w z) where
  pub cast_up : SFits b (to_z w16 (of_z w16 z))
  cast_up = wide_fits w16 b z g.narrow g.wide

  module _ (t : lt_z (to_z w16 (of_z w16 z)) (pos 0) ≡ true) where
    whole : z +ℤ pos (256 ^ w) ≡ pos (unsigned w z)
    whole = sum w z (negative w16 b z g.narrow g.wide t) g.below

    pub sum_within : SFits b (to_z b (of_z b (to_z w16 (of_z w16 z))) +ℤ pos (256 ^ w))
    sum_within = added_fits w16 b z g.narrow g.wide (256 ^ w) (unsigned w z) whole g.sum_fits

    sum_is : to_z b (of_z b (to_z b (of_z b (to_z w16 (of_z w16 z))) +ℤ pos (256 ^ w))) ≡ pos (unsigned w z)
    sum_is = added_back w16 b z g.narrow g.wide (256 ^ w) (unsigned w z) whole g.sum_fits

    pub cast_sum : T (non_neg (to_z b (of_z b (to_z b (of_z b (to_z w16 (of_z w16 z))) +ℤ pos (256 ^ w)))))
        × Fits c (nat_abs (to_z b (of_z b (to_z b (of_z b (to_z w16 (of_z w16 z))) +ℤ pos (256 ^ w)))))
    cast_sum = castable c _ (unsigned w z) sum_is g.number_fits

    pub sum_number : nat_abs (to_z b (of_z b (to_z b (of_z b (to_z w16 (of_z w16 z))) +ℤ pos (256 ^ w)))) ≡ unsigned w z
    sum_number = ap nat_abs sum_is

  module _ (t : lt_z (to_z w16 (of_z w16 z)) (pos 0) ≡ false) where
    pub cast_kept : T (non_neg (to_z w16 (of_z w16 z))) × Fits c (nat_abs (to_z w16 (of_z w16 z)))
    cast_kept = castable c _ (unsigned w z) (kept w16 b z g.narrow g.wide w t) g.number_fits

    pub kept_number : nat_abs (to_z w16 (of_z w16 z)) ≡ unsigned w z
    kept_number = ap nat_abs (kept w16 b z g.narrow g.wide w t)

-- ---- a number of 4 bytes to a value of 2 or 4, as the functions go

module _ (n : ℕ) (f : Fits w32 n) where
  pub low_4 : n < 2147483648 → signed 4 n ≡ pos n
  low_4 h = lower 4 n (omega arith)

  high_4 : 2147483648 ≤ n → signed 4 n ≡ negsuc (4294967296 - suc n)
  high_4 h = upper 4 n (omega (arith, f.fits)) (omega arith)

  pub value_4 : SFits w32 (signed 4 n)
  value_4 = fits_32 (signed 4 n) (held 4 n (omega (arith, f.fits)))

  -- c is the width of the value
  module _ (c : Width) (v : SFits c (signed 4 n)) (h : 2147483648 ≤ n) where
    less-4 : to_z w64 n -ℤ pos 4294967296 ≡ signed 4 n
    unfolding signed
    less-4 = ap (λ (y : ℤ). y -ℤ pos 4294967296) (to_z_pos w64 n (omega (arith, f.fits))) ∙ rw (le-ltb (2 * n) 4294967296 (omega arith))

    pub sub_4 : SFits w64 (to_z w64 n -ℤ pos 4294967296)
    sub_4 = less_fits w64 c n 4294967296 (signed 4 n) less-4 (widest (signed 4 n) value_4) v

    pub cast_4 : SFits c (to_z w64 (of_z w64 (to_z w64 n -ℤ pos 4294967296)))
    cast_4 = back_fits w64 c n 4294967296 (signed 4 n) less-4 (widest (signed 4 n) value_4) v

    pub taken_4 : to_z c (of_z c (to_z w64 (of_z w64 (to_z w64 n -ℤ pos 4294967296)))) ≡ signed 4 n
    taken_4 = back w64 c n 4294967296 (signed 4 n) less-4 (widest (signed 4 n) value_4) v

  -- the numbers of 4 bytes for values of 2: below 8000, or from FFFF8000 on
  pub short_is : either (ltb n 32768) (leb 4294934528 n) ≡ holds 2 (signed 4 n)
  unfolding holds
  short_is = go (ltb n 32768) refl (leb 4294934528 n) refl
    where
      go : (a : Bool) → ltb n 32768 ≡ a → (b : Bool) → leb 4294934528 n ≡ b → either (ltb n 32768) (leb 4294934528 n) ≡ ltb (2 * mag (signed 4 n)) 65536
      go true ea b eb = let l = ltb-true n 32768 ea in rw (ea, low_4 (omega arith)) (sym (lt-ltb (2 * n) 65536 (omega arith)))
      go false ea true eb =
          let l = leb-true 4294934528 n eb in
          rw (ea, eb, high_4 (omega arith)) (sym (lt-ltb (2 * (4294967296 - suc n)) 65536 (omega (arith, f.fits))))
      go false ea false eb =
          let l = ltb-false n 32768 ea in
          let m = leb-false 4294934528 n eb in
          rw (ea, eb) (between (ltb n 2147483648) refl)
        where
          between : (b : Bool) → ltb n 2147483648 ≡ b → false ≡ ltb (2 * mag (signed 4 n)) 65536
          between true e = let k = ltb-true n 2147483648 e in rw (low_4 (omega arith)) (sym (le-ltb (2 * n) 65536 (omega (arith, ltb-false n 32768 ea))))
          between false e =
              let k = ltb-false n 2147483648 e in
              rw (high_4 (omega arith)) (sym (le-ltb (2 * (4294967296 - suc n)) 65536 (omega (arith, f.fits, leb-false 4294934528 n eb))))

  module _ (p : holds 2 (signed 4 n) ≡ true) where
    pub value_short : SFits w16 (signed 4 n)
    value_short = fits_16 (signed 4 n) p

    pub short_low : n < 2147483648 → n < 32768
    short_low h = let g = subst (λ (y : ℤ). SFits w16 y) (low_4 h) value_short in g.sfits

    -- its last two bytes stand for the same value
    pub low_half : n % 65536 ≡ unsigned 2 (signed 4 n)
    unfolding unsigned
    low_half = go (ltb n 2147483648) refl
      where
        go : (b : Bool) → ltb n 2147483648 ≡ b → n % 65536 ≡ unsigned 2 (signed 4 n)
        go true e =
            let h = ltb-true n 2147483648 e in
            let l = short_low h in
            rw (low_4 h) (omega arith)
        go false e =
            let h = ltb-false n 2147483648 e in
            let g = subst (λ (y : ℤ). SFits w16 y) (high_4 h) value_short in
            rw (high_4 h) (omega (arith, g.sfits, f.fits))

-- a number of 2 bytes, extended
module _ (n : ℕ) (f : Fits w16 n) where
  pub extend_low : n < 32768 → n ≡ unsigned 4 (signed 2 n)
  unfolding unsigned
  extend_low h = rw (lower 2 n (omega arith))

  pub extend_high : 32768 ≤ n → n + 4294901760 ≡ unsigned 4 (signed 2 n)
  unfolding unsigned
  extend_high h = rw (upper 2 n (omega (arith, f.fits)) (omega arith)) (omega (arith, f.fits))
