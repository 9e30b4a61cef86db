-- Laws of numbers as text. Assumes nothing.
use mathlib.Core.Path.{◌≡◌, refl, sym, ap, subst, ◌∙◌}
use mathlib.Core.Bool.{Bool, true, false}
use mathlib.Core.List.{List, [], ◌∷◌, ◌++◌, append-nil}
use Prim.Native.Nat.{ℕ, zero, suc, ◌+◌, ◌-◌, ◌*◌, ◌/◌, ◌%◌, ◌^◌, ◌<◌, ◌≤◌, min}
use native.Mathlib.Nat.{pow-succ', pow-zero, one-le-pow}
use native.Mathlib.Numerals.{add-one}
use native.Mathlib.Omega.{arith}
use lib.Dec.{eqb, leb}
use lib.ListN.{length, get_or, take, drop, length-drop, drop_of_length-le}
use lib.Seq.{take-suc, take_all, take-nil}
use borrow.Author.Tests.{lt-ltb, le-ltb, leb-true, leb-false}
use Rattle.io.specs.Digits.{last_digits, IsDigitCount, hex_digit_ascii}
use Rattle.wire.specs.Tests.{pick}
use Rattle.wire.specs.Parts.{slice}
use Rattle.print.specs.Laid.{Laid}
use Rattle.print.specs.Texts.{hex_digit, hex_text, decimal_in, decimal_text, laid_list_text, numbers_text, laid_rectangles_text}
use Rattle.print.proofs.Laid.{as_text, then}

glyph_small : (d : ℕ) → d < 10 → hex_digit_ascii d ≡ 48 + d
glyph_small d h = rw (lt-ltb d 10 h)

-- the fewest digits are those of the definition
in_fewest : (f n r : ℕ) → n < f → IsDigitCount 10 1 n r → last_digits 10 r n ≡ decimal_in f n
unfolding decimal_in
in_fewest zero n r h w = absurd (omega arith)
in_fewest (suc f) n zero h w = absurd (omega (arith, w.0))
in_fewest (suc f) n (suc zero) h w =
    let small : n < 10 = omega (arith, w.1, pow-succ' 10 0, pow-zero 10) in
    let e : n % 10 ≡ n = omega arith in
    rw (lt-ltb n 10 small) (ap (λ (g : ℕ). g ∷ []) (ap hex_digit_ascii e ∙ glyph_small n small))
in_fewest (suc f) n (suc (suc j)) h w =
    let p1 : 10 ^ suc j ≡ 10 * 10 ^ j = pow-succ' 10 j in
    let p2 : 10 ^ suc (suc j) ≡ 10 * 10 ^ suc j = pow-succ' 10 (suc j) in
    let last : suc (suc j) - 1 ≡ suc j = omega arith in
    let low : 10 ^ suc j ≤ n = subst (λ (i : ℕ). 10 ^ i ≤ n) last (w.2 (omega arith)) in
    let more : suc j - 1 ≡ j = omega arith in
    let one : 1 ≤ 10 ^ j = one-le-pow j 10 (omega arith) in
    let high : n < 10 ^ suc (suc j) = w.1 in
    let large : 10 ≤ n = omega arith in
    let ih = in_fewest f (n / 10) (suc j) (omega arith) (omega arith, omega arith, λ _. subst (λ (i : ℕ). 10 ^ i ≤ n / 10) (sym more) (omega arith)) in
    rw (le-ltb n 10 large, ih, glyph_small (n % 10) (omega arith))

pub fewest : (n r : ℕ) → IsDigitCount 10 1 n r → last_digits 10 r n ≡ decimal_text n
unfolding decimal_text
fewest n r w = in_fewest (suc n) n r (omega arith) w

-- ---- text laid in turns

pub hex_snoc : (s : List ℕ) (b : ℕ) → hex_text (s ++ (b ∷ [])) ≡ hex_text s ++ (hex_digit (b / 16) ∷ hex_digit (b % 16) ∷ [])
unfolding hex_text
hex_snoc [] b = refl
hex_snoc (x ∷ s) b = ap (λ (t : List ℕ). hex_digit (x / 16) ∷ hex_digit (x % 16) ∷ t) (hex_snoc s b)

module _ {d x y : List ℕ} {at n m : ℕ} where
  pub hex_next : (s : List ℕ) (i : ℕ) → i < length s → Laid d at (hex_text (take i s)) x n
      → Laid x n (hex_digit (get_or s i 0 / 16) ∷ hex_digit (get_or s i 0 % 16) ∷ []) y m → Laid d at (hex_text (take (i + 1) s)) y m
  hex_next s i h l k =
      as_text (sym (ap hex_text (ap (λ (j : ℕ). take j s) (add-one i) ∙ take-suc s i 0 h) ∙ hex_snoc (take i s) (get_or s i 0))) (then l k)

  pub number_next : (part : ℕ) (ns : List ℕ) (from i : ℕ) {v : ℕ} → v ≡ get_or ns (from + i) 0 → Laid d at (numbers_text part ns from i) x n
      → Laid x n (pick (eqb i 0) [] (part ∷ []) ++ decimal_text v) y m → Laid d at (numbers_text part ns from (i + 1)) y m
  unfolding numbers_text laid_list_text
  number_next part ns from i e l k =
      as_text (rw (add-one i, e)) (then l k)

-- entry i of a list, with the byte that parts it from the one before it
pub list_next : {d x y z : List ℕ} {at n m k : ℕ} (part : ℕ) (f : ℕ → List ℕ) (i : ℕ) → Laid d at (laid_list_text part f i) x n → Laid x n (pick (eqb i 0) [] (part ∷ [])) y m
    → Laid y m (f i) z k → Laid d at (laid_list_text part f (i + 1)) z k
unfolding laid_list_text
list_next part f i l p q = as_text (rw (add-one i)) (then l (then p q))

pub rectangle_next : {d x y z : List ℕ} {at n m k : ℕ} (ns : List ℕ) (i : ℕ) → Laid d at (laid_rectangles_text ns i) x n → Laid x n (pick (eqb i 0) [] (59 ∷ [])) y m
    → Laid y m (numbers_text 44 ns (4 * i) 4) z k → Laid d at (laid_rectangles_text ns (i + 1)) z k
unfolding laid_rectangles_text
rectangle_next ns i l p q = list_next 59 (λ j. numbers_text 44 ns (4 * j) 4) i l p q

-- ---- a part of a string

pub no_part : (name s : List ℕ) (from len : ℕ) → length s < from → name ≡ name ++ hex_text (slice s from len)
unfolding slice hex_text
no_part name s from len h =
    sym (ap (λ (t : List ℕ). name ++ hex_text (take len t)) (drop_of_length-le s {i = from} (omega arith)) ∙ ap (λ (t : List ℕ). name ++ hex_text t) (take-nil len) ∙ append-nil name)

pub part_there : (s : List ℕ) (from len m : ℕ) → m ≡ min len (length s - from) → hex_text (take (from + m - from) (drop from s)) ≡ hex_text (slice s from len)
unfolding slice
part_there s from len m e = ap hex_text (go (leb len (length s - from)) refl)
  where
    go : (t : Bool) → leb len (length s - from) ≡ t → take (from + m - from) (drop from s) ≡ take len (drop from s)
    go true t =
        let l = leb-true len (length s - from) t in
        let q : from + m - from ≡ len = omega arith in
        rw q
    go false t =
        let l = leb-false len (length s - from) t in
        let q : from + m - from ≡ length s - from = omega arith in
        let w : length (drop from s) ≡ length s - from = length-drop from s in
        take_all (from + m - from) (drop from s) (omega arith) ∙ sym (take_all len (drop from s) (omega arith))
