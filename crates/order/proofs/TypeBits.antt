-- The count of ones over the three type bits. Assumes nothing.
use mathlib.Core.Path.{◌≡◌, sym, ap, ◌∙◌}
use Prim.Native.Nat.{ℕ, ◌+◌, ◌*◌, ◌/◌, ◌%◌, ◌<◌}
use native.Mathlib.Nat.{add-zero, div-div-eq-div-mul}
use native.Mathlib.Omega.{arith}
use lib.Bits.{bit_and, and_high}
use lib.Count.{ones, ones_step, ones_cat}
use Rattle.protocol.specs.Flags.{flag_desktop, flag_notification, flag_window}

ones_three : (n : ℕ) → n < 8 → ones n ≡ n % 2 + n / 2 % 2 + n / 4 % 2
unfolding ones
ones_three n h =
    let a = ones_step n in
    let b = ones_step (n / 2) in
    let c = ones_step (n / 2 / 2) in
    let z : n / 2 / 2 / 2 ≡ 0 = omega arith in
    let e : ones (n / 2 / 2 / 2) ≡ 0 = ap ones z in
    omega arith

bit0 : (y : ℕ) → y % 8 % 2 ≡ y % 2
bit0 y = omega arith

bit1 : (y : ℕ) → y % 8 / 2 % 2 ≡ y / 2 % 2
bit1 y = omega arith

bit2 : (y : ℕ) → y % 8 / 4 % 2 ≡ y / 4 % 2
bit2 y = omega arith

-- the ones of a field of three bits at bit 24
masked : (n : ℕ) → ones (bit_and n 0x07000000) ≡ ones (n / flag_window % 8)
unfolding ones
masked n =
    ap ones (and_high n 3 24 ∙ sym (add-zero (n / flag_window % 8 * flag_window)))
    ∙ ones_cat 24 (n / flag_window % 8) 0 (omega arith)
    ∙ add-zero (ones (n / flag_window % 8))

pub type_ones : (n : ℕ) → ones (bit_and n 0x07000000) ≡ n / flag_window % 2 + n / flag_notification % 2 + n / flag_desktop % 2
type_ones n =
    let y = n / flag_window in
    let h1 : y / 2 ≡ n / flag_notification = div-div-eq-div-mul n flag_window 2 in
    let h2 : y / 4 ≡ n / flag_desktop = div-div-eq-div-mul n flag_window 4 in
    masked n ∙ ones_three (y % 8) (omega arith) ∙ rw (bit0 y, bit1 y, bit2 y, h1, h2)
