-- Numbers and signed values determine each other, at every width of a byte or more. Assumes nothing.
use mathlib.Core.Path.{◌≡◌, refl, sym, ap, ◌∙◌}
use mathlib.Core.Bool.{Bool, true, false}
use mathlib.Core.List.{List, [], ◌∷◌, ◌++◌, append-nil}
use Prim.Native.Nat.{ℕ, zero, suc, ◌+◌, ◌-◌, ◌*◌, ◌/◌, ◌^◌, ◌≤◌, ◌<◌}
use native.Mathlib.Nat.{pow-succ'}
use native.Mathlib.Omega.{arith}
use lib.IntN.{ℤ, pos, negsuc}
use lib.Signed.{mag}
use lib.ListN.{get_or}
use lib.Dec.{ltb}
use borrow.Author.Tests.{lt-ltb, le-ltb, ltb-true, ltb-false, eq-eqb}
use Rattle.wire.specs.Numbers.{num_at, bytes_of, nums_at, put_all, fits_in, all_fit, Bytes}
use Rattle.wire.proofs.Numbers.{nums_put, bytes_num}
use Rattle.signs.specs.TwosComplement.{signed, unsigned, holds, Determined}

-- ---- the two halves

module _ (w n : ℕ) where
  pub lower : 2 * n < 256 ^ w → signed w n ≡ pos n
  unfolding signed
  lower h = rw (lt-ltb (2 * n) (256 ^ w) h)

  pub upper : n < 256 ^ w → 256 ^ w ≤ 2 * n → signed w n ≡ negsuc (256 ^ w - suc n)
  unfolding signed
  upper l h = rw (le-ltb (2 * n) (256 ^ w) h, lt-ltb n (256 ^ w) l)

  pub number_back : n < 256 ^ w → unsigned w (signed w n) ≡ n
  unfolding unsigned
  number_back l = go (ltb (2 * n) (256 ^ w)) refl
    where
      go : (b : Bool) → ltb (2 * n) (256 ^ w) ≡ b → unsigned w (signed w n) ≡ n
      go true e = rw (lower (ltb-true (2 * n) (256 ^ w) e))
      go false e = rw (upper l (ltb-false (2 * n) (256 ^ w) e)) (omega arith)

  pub held : n < 256 ^ w → holds w (signed w n) ≡ true
  unfolding holds
  held l = go (ltb (2 * n) (256 ^ w)) refl
    where
      go : (b : Bool) → ltb (2 * n) (256 ^ w) ≡ b → holds w (signed w n) ≡ true
      go true e = rw (lower (ltb-true (2 * n) (256 ^ w) e)) e
      go false e =
          let h = ltb-false (2 * n) (256 ^ w) e in
          rw (upper l h) (lt-ltb (2 * (256 ^ w - suc n)) (256 ^ w) (omega arith))

-- 256 to a power of 1 or more is even
pub value_back : (w : ℕ) (z : ℤ) → holds (suc w) z ≡ true → signed (suc w) (unsigned (suc w) z) ≡ z
unfolding holds unsigned
value_back w (pos n) h = lower (suc w) n (ltb-true (2 * n) (256 ^ suc w) h)
value_back w (negsuc n) h =
    let k : 256 ^ suc w ≡ 256 * 256 ^ w = pow-succ' 256 w in
    let l = ltb-true (2 * n) (256 ^ suc w) h in
    let e : 256 ^ suc w - suc (256 ^ suc w - suc n) ≡ n = omega arith in
    upper (suc w) (256 ^ suc w - suc n) (omega arith) (omega arith) ∙ ap negsuc e

pub unsigned_small : (w : ℕ) (z : ℤ) → holds w z ≡ true → unsigned w z < 256 ^ w
unfolding holds unsigned
unsigned_small w (pos n) h = omega (arith, ltb-true (2 * n) (256 ^ w) h)
unsigned_small w (negsuc n) h = omega (arith, ltb-true (2 * n) (256 ^ w) h)

-- ---- the bytes

-- a number of w bytes is less than 256 to the w, and such a number fits
pub num_under : (w : ℕ) (s : List ℕ) (at : ℕ) → Bytes s → num_at w s at < 256 ^ w
unfolding num_at
num_under zero s at ok = omega arith
num_under (suc w) s at ok = omega (arith, ok.small at, num_under w s (at + 1) ok, pow-succ' 256 w)

pub fits_under : (w n : ℕ) → n < 256 ^ w → fits_in w n ≡ true
unfolding fits_in
fits_under zero n h = eq-eqb n 0 (omega arith)
fits_under (suc w) n h = fits_under w (n / 256) (omega (arith, pow-succ' 256 w))

one_read : (w n : ℕ) (t : List ℕ) → n < 256 ^ w → num_at w (bytes_of w n ++ t) 0 ≡ n
unfolding nums_at put_all all_fit
one_read w n t h =
    ap (λ (b : List ℕ). num_at w (b ++ t) 0) (sym (append-nil (bytes_of w n)))
    ∙ ap (λ (ns : List ℕ). get_or ns 0 0) (nums_put (w ∷ []) (n ∷ []) t (rw (fits_under w n h)))

-- the one law over the width
pub determined : (w : ℕ) → Determined (suc w)
determined w =
    record {
      number_back = number_back (suc w);
      value_back = value_back w;
      bytes_back = λ s ok h. ap (bytes_of (suc w)) (number_back (suc w) (num_at (suc w) s 0) (num_under (suc w) s 0 ok)) ∙ bytes_num (suc w) s ok h;
      value_read = λ z t h. ap (signed (suc w)) (one_read (suc w) (unsigned (suc w) z) t (unsigned_small (suc w) z h)) ∙ value_back w z h;
    }

-- ---- the same at 2 and 4 bytes

pub back_2 : (z : ℤ) → holds 2 z ≡ true → signed 2 (unsigned 2 z) ≡ z
back_2 z h = (determined 1).value_back z h

pub forth_2 : (n : ℕ) → n < 65536 → unsigned 2 (signed 2 n) ≡ n
forth_2 n h = (determined 1).number_back n h

pub back_4 : (z : ℤ) → holds 4 z ≡ true → signed 4 (unsigned 4 z) ≡ z
back_4 z h = (determined 3).value_back z h

pub forth_4 : (n : ℕ) → n < 4294967296 → unsigned 4 (signed 4 n) ≡ n
forth_4 n h = (determined 3).number_back n h

-- a value of 2 bytes is one of 4
pub longer : (z : ℤ) → holds 2 z ≡ true → holds 4 z ≡ true
unfolding holds
longer z h = lt-ltb (2 * mag z) 4294967296 (omega (arith, ltb-true (2 * mag z) 65536 h))

-- as a number of 4 bytes it fits, and stands for the same value
module _ (z : ℤ) (h : holds 2 z ≡ true) where
  pub word_small : unsigned 4 z < 4294967296
  word_small = unsigned_small 4 z (longer z h)

  pub word_short : holds 2 (signed 4 (unsigned 4 z)) ≡ true
  word_short = rw (back_4 z (longer z h)) h

pub held_2 : (n : ℕ) → n < 65536 → holds 2 (signed 2 n) ≡ true
held_2 n h = held 2 n h
