-- Two's complement: the numbers of w bytes that stand for signed ones. Assumes nothing.
use Rattle.std.specs.Prelude.{ℕ, suc, ◌-◌, ◌*◌, ◌^◌, ◌<◌, ◌≤◌, Bool, true, List, ◌++◌, ◌≡◌, ℤ, pos, negsuc, ltb, length, take}
use Rattle.std.proofs.Math.IntN.{sub_ℕ}
use Rattle.std.specs.Int.Signed.{mag}
use Rattle.wire.specs.Tests.{pick}
use Rattle.wire.specs.Numbers.{num_at, bytes_of, Bytes}

-- the value that the number n of w bytes stands for: the lower half stand for themselves, the upper half for n - 256 ^ w
unfoldable pub signed : ℕ → ℕ → ℤ
signed w n = pick (ltb (2 * n) (256 ^ w)) (pos n) (sub_ℕ n (256 ^ w))

-- the number of w bytes that stands for a value; `negsuc n` is -(n + 1)
unfoldable pub unsigned : ℕ → ℤ → ℕ
unsigned w (pos n) = n
unsigned w (negsuc n) = 256 ^ w - suc n

-- w bytes have a number for the value; `mag` of n and of -(n + 1) is n
unfoldable pub holds : ℕ → ℤ → Bool
holds w z = ltb (2 * mag z) (256 ^ w)

-- the value at index at of a list of bytes, and the bytes of a value
abbrev pub signed_at : ℕ → List ℕ → ℕ → ℤ
signed_at w s at = signed w (num_at w s at)

abbrev pub signed_bytes : ℕ → ℤ → List ℕ
signed_bytes w z = bytes_of w (unsigned w z)

-- the law of a width: number and value, bytes and value determine each other
pub record Determined (w : ℕ) : Type 0 where
  pub number_back : (n : ℕ) → n < 256 ^ w → unsigned w (signed w n) ≡ n
  pub value_back : (z : ℤ) → holds w z ≡ true → signed w (unsigned w z) ≡ z
  pub bytes_back : (s : List ℕ) → Bytes s → w ≤ length s → signed_bytes w (signed_at w s 0) ≡ take w s
  pub value_read : (z : ℤ) (t : List ℕ) → holds w z ≡ true → signed_at w (signed_bytes w z ++ t) 0 ≡ z
