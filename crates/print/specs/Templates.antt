-- Text with numbers in it: a template and the numbers that its marks stand for, in ASCII. Assumes nothing.
use Rattle.std.specs.Prelude.{ℕ, zero, suc, ◌+◌, List, [], ◌∷◌, ◌++◌, eqb, get_or, ℤ, pos}
use Prim.Native.Char.{code}
use Prim.Native.String.{String, len, char_at}
use Rattle.wire.specs.Tests.{pick}
use Rattle.print.specs.Texts.{decimal_text, signed_text}

-- n characters of a text from index i on, and all of them, each as its number
unfoldable pub ascii_from : ℕ → ℕ → String → List ℕ
ascii_from zero i s = []
ascii_from (suc n) i s = code (char_at s i) ∷ ascii_from n (suc i) s

unfoldable pub ascii : String → List ℕ
ascii s = ascii_from (len s) 0 s

-- the byte that stands for a number, and the one for a number that may be negative
abbrev pub number_mark : ℕ
number_mark = code "#"

abbrev pub signed_mark : ℕ
signed_mark = code "~"

-- what a byte of a template stands for
unfoldable pub stands_for : ℕ → ℕ → ℤ → List ℕ
stands_for b v z = pick (eqb b number_mark) (decimal_text v) (pick (eqb b signed_mark) (signed_text z) (b ∷ []))

-- which number is next after the byte b, of those that the byte mark stands for
unfoldable pub next_after : ℕ → ℕ → ℕ → ℕ
next_after k b mark = pick (eqb b mark) (k + 1) k

-- a template with numbers from index k on and signed numbers from index j on; past the last stands 0
unfoldable pub fill_from : List ℕ → List ℕ → List ℤ → ℕ → ℕ → List ℕ
fill_from [] ns zs k j = []
fill_from (b ∷ t) ns zs k j = stands_for b (get_or ns k 0) (get_or zs j (pos 0)) ++ fill_from t ns zs (next_after k b number_mark) (next_after j b signed_mark)

-- `a=#,~` with 7 and -8 is `a=7,-8`
unfoldable pub fill_text : List ℕ → List ℕ → List ℤ → List ℕ
fill_text template ns zs = fill_from template ns zs 0 0
