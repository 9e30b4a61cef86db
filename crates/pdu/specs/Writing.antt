-- Writing a record: the bytes it is written as, the answer, and the output memory after it. Assumes nothing.
use Rattle.std.specs.Prelude.{ℕ, ◌+◌, Bool, true, List, [], ◌∷◌, ◌++◌, map, length, drop, replicate, leb, eqb, Result, Ok, Err}
use Rattle.wire.specs.Tests.{pick, both}
use Rattle.wire.specs.Parts.{slice, splice}
use Rattle.wire.specs.Numbers.{put_all}
use Rattle.pdu.specs.declared.Span.{Span}
use Rattle.pdu.specs.declared.Pdu.{Pdu}
use Rattle.protocol.specs.declared.Refusal.{Refusal}
use Rattle.protocol.specs.declared.Refusal.TheVariants.{OutsideSet, OutputTooSmall}
use Rattle.protocol.specs.Refusals.{refused_by}
use Rattle.pdu.specs.Records.{kind_of, nums_of, widths_of, size_of, spans_of}
use Rattle.pdu.specs.Rules.{allowed}

-- the part of src where a string stands, and whether src of n bytes has it whole
abbrev pub part_of : List ℕ → Span → List ℕ
part_of src t = slice src t.at t.len

abbrev pub lies : ℕ → Span → Bool
lies n t = leb (t.at + t.len) n

abbrev pub all_lie : ℕ → List Span → Bool
all_lie n [] = true
all_lie n (t ∷ ts) = both (lies n t) (all_lie n ts)

-- the array of 520 zeros in which an application id is laid before writing
unfoldable pub zeros : List ℕ
zeros = replicate 520 0

-- a string of a record of type k as it is written: an application id with zeros to the end
unfoldable pub filled : ℕ → List ℕ → List ℕ
filled k s = pick (eqb k 0x0F) (splice zeros 0 s) s

-- the strings of a record as they are written
unfoldable pub strings_of : Pdu → List ℕ → List (List ℕ)
strings_of p src = map (λ (t : Span). filled (kind_of p) (part_of src t)) (spans_of p)

unfoldable pub joined : List (List ℕ) → List ℕ
joined [] = []
joined (x ∷ xs) = x ++ joined xs

-- the widths and the numbers of a record with its header
abbrev pub row : Pdu → List ℕ
row p = 2 ∷ 2 ∷ widths_of p

abbrev pub line : Pdu → List ℕ
line p = kind_of p ∷ size_of p ∷ nums_of p

-- the bytes that a record is written as, its strings taken from src
unfoldable pub encode : Pdu → List ℕ → List ℕ
encode p src = put_all (row p) (line p) ++ joined (strings_of p src)

-- number 8 does not apply: each number is in its set, and src has each string whole
unfoldable pub grants : Pdu → List ℕ → Bool
grants p src = both (allowed p) (all_lie (length src) (spans_of p))

-- how many bytes are written, or the first refusal that applies, where the output memory lent has n bytes
unfoldable pub written_of : Pdu → List ℕ → ℕ → Result ℕ Refusal
written_of p src n = pick (grants p src) (pick (leb (size_of p) n) (Ok (size_of p)) (Err OutputTooSmall)) (Err OutsideSet)

-- the number of the refusal, 0 for none
unfoldable pub written_number : Pdu → List ℕ → ℕ → ℕ
written_number p src n = refused_by (written_of p src n)

-- the output memory after an answer: only the first bytes change, and none on a refusal
abbrev pub out_with : Result ℕ Refusal → List ℕ → List ℕ → List ℕ
out_with (Ok n) bytes out = bytes ++ drop n out
out_with (Err r) bytes out = out

unfoldable pub out_after_of : Pdu → List ℕ → List ℕ → List ℕ
out_after_of p src out = out_with (written_of p src (length out)) (encode p src) out
