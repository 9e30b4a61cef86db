-- One chunk of a control message, joined to what is begun. Assumes nothing.
use Rattle.std.specs.Prelude.{ℕ, Bool, true, false, not, List, [], ◌∷◌, ◌++◌, length, drop, eqb, ltb}
use Rattle.protocol.specs.declared.Refusal.{Refusal}
use Rattle.protocol.specs.declared.Refusal.TheVariants.{ChunkTooShort, BadChunk}
use Rattle.wire.specs.Tests.{pick, both, any, has}
use Rattle.wire.specs.Numbers.{num_at}

-- what is begun: nothing, or a message's total length and its bytes so far
pub data State : Type 0 where
  nothing : State
  begun : ℕ → List ℕ → State

-- what a chunk gives: more is awaited after so many bytes; a whole message, its bytes; a refusal
pub data Answer : Type 0 where
  awaited : ℕ → Answer
  message : List ℕ → Answer
  refused : Refusal → Answer

pub record Step : Type 0 where
  pub answer : Answer
  pub state : State

-- ---- a chunk: total length 4, flags 4, then data

-- the longest message, and the bytes before a chunk's data
abbrev pub most : ℕ
most = 17052

abbrev pub head_size : ℕ
head_size = 8

abbrev pub total_in : List ℕ → ℕ
total_in chunk = num_at 4 chunk 0

abbrev pub flags_in : List ℕ → ℕ
flags_in chunk = num_at 4 chunk 4

abbrev pub data_in : List ℕ → List ℕ
data_in chunk = drop head_size chunk

-- bit 1 first, bit 2 last; of the other flag bits only compressed matters
abbrev pub flag_first : ℕ
flag_first = 1

abbrev pub flag_last : ℕ
flag_last = 2

abbrev pub compressed : ℕ
compressed = 0x00200000

abbrev pub is_first : List ℕ → Bool
is_first chunk = has (flags_in chunk) flag_first

abbrev pub is_last : List ℕ → Bool
is_last chunk = has (flags_in chunk) flag_last

abbrev pub is_compressed : List ℕ → Bool
is_compressed chunk = has (flags_in chunk) compressed

-- ---- what was begun

unfoldable pub is_nothing : State → Bool
is_nothing nothing = true
is_nothing (begun total bytes) = false

-- the total of the first chunk
unfoldable pub first_total : State → ℕ
first_total nothing = 0
first_total (begun total bytes) = total

unfoldable pub bytes_so_far : State → List ℕ
bytes_so_far nothing = []
bytes_so_far (begun total bytes) = bytes

-- a first chunk drops the unfinished message and starts afresh
unfoldable pub assembled : State → List ℕ → List ℕ
assembled state chunk = pick (is_first chunk) [] (bytes_so_far state) ++ data_in chunk

-- ---- the refusals

-- 15: chunk under 8 bytes
abbrev pub refuses15 : List ℕ → Bool
refuses15 chunk = ltb (length chunk) head_size

-- 16: compressed; not first with nothing begun; a total of 0 or over 17,052; a total differing from the first's; data past the
-- total or, in a last chunk, short of it
unfoldable pub refuses16 : State → List ℕ → Bool
refuses16 state chunk =
    any (is_compressed chunk
    ∷ both (not (is_first chunk)) (is_nothing state)
    ∷ eqb (total_in chunk) 0
    ∷ ltb most (total_in chunk)
    ∷ both (not (is_first chunk)) (not (eqb (total_in chunk) (first_total state)))
    ∷ ltb (total_in chunk) (length (assembled state chunk))
    ∷ both (is_last chunk) (ltb (length (assembled state chunk)) (total_in chunk))
    ∷ [])

-- ---- a step: 15 leaves what was begun, 16 drops it, a whole message leaves nothing begun

unfoldable pub chunk_step : State → List ℕ → Step
chunk_step state chunk =
    pick (refuses15 chunk) (record { answer = refused ChunkTooShort; state = state })
    (pick (refuses16 state chunk) (record { answer = refused BadChunk; state = nothing })
    (pick (is_last chunk)
    (record { answer = message (assembled state chunk); state = nothing })
    (record { answer = awaited (length (assembled state chunk)); state = begun (total_in chunk) (assembled state chunk) })))
