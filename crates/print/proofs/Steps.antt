-- Laws of the texts that are printed: decimals, one more byte in hex, one more item of a list, and that they are those that are laid. Assumes nothing.
use Rattle.std.proofs.Common.{◌≡◌, ℕ, zero, suc, ◌+◌, ◌-◌, ◌*◌, ◌^◌, ◌<◌, List, [], ◌∷◌, ◌++◌, false, length, take, drop, length-drop, min, get_or, inl, inr, arith, lt-ltb, le-ltb, refl, sym, ap, ◌∙◌}
use native.Mathlib.Numerals.{add-one}
use lib.ListN.{drop_of_length-le}
use lib.Seq.{take_all, take-nil}
use Rattle.std.proofs.lemmas.Bool.{cases_lt}
use Rattle.wire.specs.Parts.{slice}
use lib.IntN.{ℤ, pos, negsuc}
use lib.Signed.{mag}
use Rattle.std.proofs.lemmas.Fmt.{AppendsLastDigit, decimal_from_appends, length-decimal-le_succ, hex_byte}
use Rattle.std.proofs.lemmas.List.{take_more}
use Rattle.std.proofs.lemmas.Str.{encode_ascii}
use Rattle.std.specs.Fmt.{padded_integral, format_spec, digits, decimal, signed_decimal}
use mathlib.Core.List.{append_assoc}
use native.Mathlib.Nat.{add-zero}
use lib.Dec.{eqb}
use Rattle.wire.specs.Tests.{pick}
use Rattle.print.specs.Texts.{hex_text, decimal_in, decimal_text, signed_text, parting_text, laid_list_text, numbers_text, rectangle_text, rectangle_at, laid_rectangles_text, list_text, rectangles_text}
use Rattle.print.proofs.Texts.{hex_snoc}

-- ---- decimals: what std prints is the text without zeros in front

appends : AppendsLastDigit decimal_in
unfolding decimal_in
appends = record { one = λ k n small. rw (lt-ltb n 10 small) refl; more = λ k n large. rw (le-ltb n 10 large) refl }

pub decimal_is : (n : ℕ) → n < 2 ^ 64 → decimal_text n ≡ decimal n
unfolding decimal_text
decimal_is n h = decimal_from_appends decimal_in appends (suc n) n h (omega (arith, length-decimal-le_succ n h))

pub signed_is : (z : ℤ) → mag z < 2 ^ 63 → signed_text z ≡ signed_decimal z
unfolding signed_text
signed_is (pos n) h = decimal_is n (omega (arith, h))
signed_is (negsuc n) h = ap (λ (t : List ℕ). 45 ∷ t) (decimal_is (suc n) (omega (arith, h)))

-- ---- bytes in hex

-- what `{:02x}` prints of a byte
abbrev pub two_digits : ℕ → List ℕ
two_digits b = padded_integral (format_spec 32 0 4 2 (2 ^ 64 - 1)) false [] (digits 16 false b)

pub hex_more : (s : List ℕ) (i : ℕ) → i < length s → get_or s i 0 < 256 → hex_text (take i s) ++ two_digits (get_or s i 0) ≡ hex_text (take (i + 1) s)
hex_more s i h small =
    ap (λ t. hex_text (take i s) ++ t) (hex_byte false (get_or s i 0) small) ∙ sym (hex_snoc (take i s) (get_or s i 0))
    ∙ ap hex_text (sym (take_more s i 0 h))

pub hex_none : hex_text [] ≡ []
unfolding hex_text
hex_none = refl

-- ---- lists, and rectangles

pub rectangles_none : (ns : List ℕ) → rectangles_text ns 0 ≡ []
unfolding rectangles_text list_text
rectangles_none ns = refl

pub parting_is : (part k : ℕ) → part < 128 → parting_text part k ≡ pick (eqb k 0) [] (part ∷ [])
parting_is part k h = ap (λ (t : List ℕ). pick (eqb k 0) [] t) (encode_ascii part h)

in_turn : (a b c d : List ℕ) → ((a ++ b) ++ c) ++ d ≡ a ++ (b ++ (c ++ d))
in_turn a b c d = append_assoc (a ++ b) c d ∙ append_assoc a b (c ++ d)

-- four numbers as std prints them
pub four_is : (ns : List ℕ) (from : ℕ) → ((i : ℕ) → get_or ns i 0 < 2 ^ 64) → numbers_text 44 ns from 4 ≡ rectangle_at ns from
unfolding numbers_text laid_list_text rectangle_text
four_is ns from small =
    rw (add-zero from, decimal_is (get_or ns from 0) (small from), decimal_is (get_or ns (from + 1) 0) (small (from + 1)), decimal_is (get_or ns (from + 2) 0) (small (from + 2)), decimal_is (get_or ns (from + 3) 0) (small (from + 3)))
    (in_turn (decimal (get_or ns from 0)) (44 ∷ decimal (get_or ns (from + 1) 0)) (44 ∷ decimal (get_or ns (from + 2) 0)) (44 ∷ decimal (get_or ns (from + 3) 0)))

pub list_more : (part : ℕ) (f : ℕ → List ℕ) (k : ℕ) → list_text part f k ++ (parting_text part k ++ f k) ≡ list_text part f (k + 1)
unfolding list_text
list_more part f k = rw (add-one k) refl

pub rectangles_more : (ns : List ℕ) (k : ℕ) → rectangles_text ns k ++ (parting_text 59 k ++ rectangle_at ns (4 * k)) ≡ rectangles_text ns (k + 1)
unfolding rectangles_text
rectangles_more ns k = list_more 59 (λ i. rectangle_at ns (4 * i)) k

-- what is printed is what is laid
pub list_is : (part : ℕ) (f g : ℕ → List ℕ) (k : ℕ) → part < 128 → ((i : ℕ) → f i ≡ g i) → list_text part f k ≡ laid_list_text part g k
unfolding list_text laid_list_text
list_is part f g zero h e = refl
list_is part f g (suc k) h e = rw (list_is part f g k h e, parting_is part k h, e k) refl

pub rectangles_is : (ns : List ℕ) (k : ℕ) → ((i : ℕ) → get_or ns i 0 < 2 ^ 64) → rectangles_text ns k ≡ laid_rectangles_text ns k
unfolding rectangles_text laid_rectangles_text
rectangles_is ns k small = list_is 59 (λ i. rectangle_at ns (4 * i)) (λ i. numbers_text 44 ns (4 * i) 4) k (omega arith) (λ i. sym (four_is ns (4 * i) small))

-- the part of a slice that is lent, as far as there is one
pub part_lent : (s : List ℕ) (from len start end : ℕ) → start ≡ min from (length s) → end ≡ start + min len (length s - start)
    → take (end - start) (drop start s) ≡ slice s from len
unfolding slice
part_lent s from len start end e f = elim (cases_lt (length s) from) [
  | inl past ↦
      let none : end - start ≡ 0 = omega arith in
      rw (none, drop_of_length-le s {i = from} (omega arith), take-nil) refl
  | inr in_range ↦
      let same : start ≡ from = omega arith in
      elim (cases_lt (length s - from) len) [
        | inl cut ↦
            let all : length (drop from s) ≡ length s - from = length-drop from s in
            rw same (take_all (end - from) (drop from s) (omega arith) ∙ sym (take_all len (drop from s) (omega arith)))
        | inr whole ↦
            let n : end - start ≡ len = omega arith in
            rw (n, same) refl
      ]
]

-- the first of a slice that are lent, as far as there are any
pub first_lent : (xs : List ℕ) (n end : ℕ) → end ≡ min n (length xs) → take end xs ≡ take n xs
first_lent xs n end m = elim (cases_lt n (length xs)) [
  | inl below ↦ let same : end ≡ n = omega arith in rw same refl
  | inr all ↦ take_all end xs (omega arith) ∙ sym (take_all n xs (omega arith))
]
