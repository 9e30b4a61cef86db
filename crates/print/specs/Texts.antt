-- Bytes and numbers as text, in ASCII. Assumes nothing.
use Rattle.std.specs.Prelude.{◌==◌, if◌then◌else◌, encode_utf8, codes, ℕ, zero, suc, ◌+◌, ◌*◌, ◌/◌, ◌%◌, List, [], ◌∷◌, ◌++◌, eqb, ltb, get_or, ℤ, pos, negsuc}
use Rattle.std.specs.Fmt.{decimal}
use Rattle.wire.specs.Tests.{pick}

-- `a & b` is the text a followed by the text b. It groups to the right, as the parts of a printed line do
infixr 65 ◌&◌
abbrev pub ◌&◌ : List ℕ → List ℕ → List ℕ
a & b = a ++ b

-- a digit below 16: `0` to `9`, then `a` to `f`
abbrev pub hex_digit : ℕ → ℕ
hex_digit d = pick (ltb d 10) (48 + d) (87 + d)

-- each byte as two digits
unfoldable pub hex_text : List ℕ → List ℕ
hex_text [] = []
hex_text (b ∷ s) = hex_digit (b / 16) ∷ hex_digit (b % 16) ∷ hex_text s

-- the decimal digits of a number below 10 ^ k, without zeros in front
unfoldable pub decimal_in : ℕ → ℕ → List ℕ
decimal_in zero n = []
decimal_in (suc k) n = pick (ltb n 10) ((48 + n) ∷ []) (decimal_in k (n / 10) ++ ((48 + n % 10) ∷ []))

-- a number has fewer digits than its successor says
unfoldable pub decimal_text : ℕ → List ℕ
decimal_text n = decimal_in (suc n) n

-- with `-` in front where it is negative
unfoldable pub signed_text : ℤ → List ℕ
signed_text (pos n) = decimal_text n
signed_text (negsuc n) = 45 ∷ decimal_text (suc n)

-- the texts of 0, 1 and on, k of them, parted by a byte
unfoldable pub laid_list_text : ℕ → (ℕ → List ℕ) → ℕ → List ℕ
laid_list_text part f zero = []
laid_list_text part f (suc k) = laid_list_text part f k ++ (pick (eqb k 0) [] (part ∷ []) ++ f k)

-- k numbers from index from on, parted by a byte: `7,8,9`
unfoldable pub numbers_text : ℕ → List ℕ → ℕ → ℕ → List ℕ
numbers_text part ns from k = laid_list_text part (λ i. decimal_text (get_or ns (from + i) 0)) k

-- k rectangles of four numbers: `1,2,3,4;5,6,7,8`
unfoldable pub laid_rectangles_text : List ℕ → ℕ → List ℕ
laid_rectangles_text ns k = laid_list_text 59 (λ i. numbers_text 44 ns (4 * i) 4) k

-- ---- the same as std prints it

-- what parts item i of a list from the one before it: nothing stands before the first
abbrev pub parting_text : ℕ → ℕ → List ℕ
parting_text part i = if i == 0 then [] else encode_utf8 part

-- left, top, right and bottom: `1,2,30,40`
unfoldable pub rectangle_text : ℕ → ℕ → ℕ → ℕ → List ℕ
rectangle_text left top right bottom =
    decimal left & codes "," & decimal top & codes "," & decimal right & codes "," & decimal bottom

-- the rectangle whose four numbers begin at index from
abbrev pub rectangle_at : List ℕ → ℕ → List ℕ
rectangle_at ns from = rectangle_text (get_or ns from 0) (get_or ns (from + 1) 0) (get_or ns (from + 2) 0) (get_or ns (from + 3) 0)

-- the texts of items 0, 1 and on, k of them, each but the first after what parts it from the one before
unfoldable pub list_text : ℕ → (ℕ → List ℕ) → ℕ → List ℕ
list_text part f zero = []
list_text part f (suc k) = list_text part f k ++ (parting_text part k ++ f k)

-- the first k rectangles of four numbers each: `1,2,30,40;5,6,70,80`
unfoldable pub rectangles_text : List ℕ → ℕ → List ℕ
rectangles_text ns k = list_text 59 (λ i. rectangle_at ns (4 * i)) k
