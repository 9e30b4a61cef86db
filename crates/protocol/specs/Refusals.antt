-- The refusals: their numbers and words, and what a result says as an answer. Assumes nothing.
use Rattle.std.specs.Prelude.{◌≡◌, ℕ, List, [], ◌∷◌, Result, Ok, Err, MatchResult, codes, IsTrue, nat_eq, nat_lt, ◌||◌, eqb, cond}
use Rattle.protocol.specs.declared.Refusal.{Refusal}
use Rattle.protocol.specs.declared.Refusal.TheVariants.{UnfitMemory, TooShort, LengthDiffers, UnknownType, UnknownFlag, FlagsClash, NotFilled, OutsideSet, WrongId, TableFull, NoCell, HistoryFull, TooManySteps, OutputTooSmall, ChunkTooShort, BadChunk, NoPlace, RecordCut, RecordDiffers, WrongEnd, NotPermitted}
use Rattle.protocol.specs.declared.UnknownRefusal.{UnknownRefusal}

-- the number of a refusal
abbrev pub number_of : Refusal → ℕ
number_of UnfitMemory = 1
number_of TooShort = 2
number_of LengthDiffers = 3
number_of UnknownType = 4
number_of UnknownFlag = 5
number_of FlagsClash = 6
number_of NotFilled = 7
number_of OutsideSet = 8
number_of WrongId = 9
number_of TableFull = 10
number_of NoCell = 11
number_of HistoryFull = 12
number_of TooManySteps = 13
number_of OutputTooSmall = 14
number_of ChunkTooShort = 15
number_of BadChunk = 16
number_of NoPlace = 17
number_of RecordCut = 18
number_of RecordDiffers = 19
number_of WrongEnd = 20
number_of NotPermitted = 21

-- the words of its condition
abbrev pub words_of : Refusal → List ℕ
words_of UnfitMemory = codes "lent state memory is shorter than needed, or not well formed"
words_of TooShort = codes "fewer than 4 bytes (PDU) or 7 bytes (order)"
words_of LengthDiffers = codes "declared length differs from the bytes given"
words_of UnknownType = codes "unknown PDU type; or first order byte isn't 2E; or not the case that exactly one of the three type bits is set"
words_of UnknownFlag = codes "order has a flag bit outside its kind's closed list"
words_of FlagsClash = codes "order flags clash"
words_of NotFilled = codes "the fields don't fill the declared length exactly"
words_of OutsideSet = codes "a field's number is outside its allowed set"
words_of WrongId = codes "the id must be in the table and isn't, or must not be and is"
words_of TableFull = codes "a new record is asked for and its table is full"
words_of NoCell = codes "cached icon naming an empty cell"
words_of HistoryFull = codes "history room would be passed"
words_of TooManySteps = codes "more steps back than stand after the mark"
words_of OutputTooSmall = codes "output memory too small"
words_of ChunkTooShort = codes "chunk under 8 bytes"
words_of BadChunk = codes "chunk is compressed; not first with nothing begun; a total of 0 or over 17,052; a total differing from the first's; or data past the total or, in a last chunk, short of it"
words_of NoPlace = codes "every place is pointed at"
words_of RecordCut = codes "fewer than 2 bytes, or than 2 plus 8 for each counted order, or an offset plus size past the end"
words_of RecordDiffers = codes "count over 128, sizes over 32,768 in all, offsets not those of the layout, or bytes left over"
words_of WrongEnd = codes "a kind from the wrong end"
words_of NotPermitted = codes "a program not permitted"

-- the refusal of this number, or an error with a number that none has: 0, or past 21
abbrev pub Decodes : ℕ → Result Refusal UnknownRefusal → Type 0
Decodes n r = MatchResult r (λ x. number_of x ≡ n) (λ e. (e.0 ≡ n) × IsTrue (nat_eq n 0 || nat_lt 21 n))

-- what a call answers: the number of its refusal, 0 for none, and what is given
pub record Answer (A : Type 0) : Type 0 where
  pub number : ℕ
  pub values : List A

-- the number n, and where it is 0 the value v
abbrev pub answers : {A : Type 0} → ℕ → A → Answer A
answers n v = record { number = n; values = cond (eqb n 0) (v ∷ []) [] }

-- what a result says as an answer
abbrev pub says : {A : Type 0} → Result A Refusal → Answer A
says (Ok v) = record { number = 0; values = v ∷ [] }
says (Err r) = record { number = number_of r; values = [] }

-- the number of a result's refusal, 0 for none
abbrev pub refused_by : {A : Type 0} → Result A Refusal → ℕ
refused_by (Ok v) = 0
refused_by (Err r) = number_of r
