-- A figure written in three numbers of 4 bytes is its windows in 4 bytes and its pixels in 8. Assumes nothing.
use mathlib.Core.Path.{◌≡◌, refl, sym, ap, ◌∙◌}
use mathlib.Core.List.{List, ◌++◌}
use Prim.Native.Nat.{ℕ, ◌+◌, ◌*◌, ◌/◌, ◌%◌, ◌<◌, ◌≤◌}
use native.Mathlib.Omega.{arith}
use lib.ListN.{length, length-append, take}
use lib.Seq.{take_at}
use Rattle.wire.specs.Numbers.{bytes_of}
use Rattle.wire.specs.Parts.{splice}
use Rattle.wire.proofs.Numbers.{length_bytes}
use Rattle.wire.proofs.Parts.{length_splice, splice_after}
use Rattle.figure.specs.declared.Figure.{Figure}
use Rattle.figure.specs.Figure.{figure_length, figure_bytes}

-- the numbers of 4 bytes
abbrev pub half : ℕ
half = 4294967296

-- a number by its last byte
last_byte : (x y q : ℕ) → y ≡ 256 * q + x → x % 256 ≡ y % 256
last_byte x y q e = omega (arith, e)

without_last : (x y q : ℕ) → x < 256 → y ≡ 256 * q + x → q ≡ y / 256
without_last x y q h e = omega (arith, h, e)

-- 8 bytes are the two halves of a number
pub halves : (v : ℕ) → bytes_of 4 (v % half) ++ bytes_of 4 (v / half) ≡ bytes_of 8 v
unfolding bytes_of
halves v =
    let one : v / 256 ≡ 16777216 * (v / half) + v % half / 256 = omega arith in
    let two : v / 256 / 256 ≡ 65536 * (v / half) + v % half / 256 / 256 = omega (arith, one) in
    let three : v / 256 / 256 / 256 ≡ 256 * (v / half) + v % half / 256 / 256 / 256 = omega (arith, two) in
    let a : v % half % 256 ≡ v % 256 = omega arith in
    let b = last_byte (v % half / 256) (v / 256) (65536 * (v / half)) (omega (arith, one)) in
    let c = last_byte (v % half / 256 / 256) (v / 256 / 256) (256 * (v / half)) (omega (arith, two)) in
    let d = last_byte (v % half / 256 / 256 / 256) (v / 256 / 256 / 256) (v / half) three in
    let small : v % half / 256 / 256 / 256 < 256 = omega arith in
    let e = without_last (v % half / 256 / 256 / 256) (v / 256 / 256 / 256) (v / half) small three in
    rw (a, b, c, d, e)

-- the lower half has the first four
pub lower_half : (v : ℕ) → bytes_of 4 (v % half) ≡ bytes_of 4 v
lower_half v =
    sym (take_at (bytes_of 4 (v % half)) (bytes_of 4 (v / half)) 4 (length_bytes 4 (v % half))) ∙ ap (take 4) (halves v) ∙ first
  where
    first : take 4 (bytes_of 8 v) ≡ bytes_of 4 v
    first = unfold bytes_of in refl

-- the three numbers, one after the other
pub figure_put : (out : List ℕ) (at : ℕ) (f : Figure) {x y z : List ℕ} → at + figure_length ≤ length out → x ≡ splice out at (bytes_of 4 f.windows)
    → y ≡ splice x (at + 4) (bytes_of 4 (f.pixels % half)) → z ≡ splice y (at + 8) (bytes_of 4 (f.pixels / half)) → z ≡ splice out at (figure_bytes f)
unfolding figure_bytes
figure_put out at f h ex ey ez =
    let w = bytes_of 4 f.windows in
    let l = bytes_of 4 (f.pixels % half) in
    let u = bytes_of 4 (f.pixels / half) in
    let lw = length_bytes 4 f.windows in
    let ll = length_bytes 4 (f.pixels % half) in
    let lu = length_bytes 4 (f.pixels / half) in
    let lower : length (l ++ u) ≡ 8 = omega (arith, length-append l u, ll, lu) in
    ez
    ∙ ap (λ (s : List ℕ). splice s (at + 8) u) (ey ∙ ap (λ (s : List ℕ). splice s (at + 4) l) ex)
    ∙ splice_after (splice out at w) (at + 4) l u (at + 8) (omega (arith, ll)) (omega (arith, ll, lu, h, length_splice out at w (omega (arith, lw, h))))
    ∙ splice_after out at w (l ++ u) (at + 4) (omega (arith, lw)) (omega (arith, lw, lower, h))
    ∙ ap (λ (s : List ℕ). splice out at (w ++ s)) (halves f.pixels)
