-- The lent memory that keeps what is begun: 17,052 bytes for a message, then its total length and how many of its bytes have come,
-- 4 bytes each. A total of 0 says that nothing is begun. Assumes nothing.
use Rattle.std.specs.Prelude.{ℕ, ◌+◌, ◌-◌, Bool, not, List, [], ◌∷◌, length, take, eqb, leb, ltb}
use Rattle.protocol.specs.declared.Refusal.TheVariants.{UnfitMemory}
use Rattle.wire.specs.Tests.{pick, both, any}
use Rattle.wire.specs.Parts.{slice, splice}
use Rattle.wire.specs.Numbers.{num_at, bytes_of}
use Rattle.chunk.specs.Chunk.{State, nothing, begun, Answer, refused, most, head_size, total_in, is_first, is_last, is_compressed, chunk_step}

-- where the total and the number of bytes that came stand, and the measure
abbrev pub total_place : ℕ
total_place = 17052

abbrev pub got_place : ℕ
got_place = 17056

abbrev pub memory_size : ℕ
memory_size = 17060

abbrev pub total_at : List ℕ → ℕ
total_at mem = num_at 4 mem total_place

abbrev pub got_at : List ℕ → ℕ
got_at mem = num_at 4 mem got_place

-- the well-formed rule: the total is at most 17,052, and no more bytes came than it says. Bytes of no message may be anything
unfoldable pub well_formed : List ℕ → Bool
well_formed mem = both (leb (total_at mem) most) (leb (got_at mem) (total_at mem))

-- the state that well-formed memory describes
unfoldable pub state_at : List ℕ → State
state_at mem = pick (eqb (total_at mem) 0) nothing (begun (total_at mem) (take (got_at mem) mem))

-- what memory describes
pub data View : Type 0 where
  too_short : View
  unformed : View
  formed : State → View

unfoldable pub view_of : List ℕ → View
view_of mem = pick (ltb (length mem) memory_size) too_short (pick (well_formed mem) (formed (state_at mem)) unformed)

-- 1 comes first: memory that is shorter than needed, or not well formed
unfoldable pub answer_on : View → List ℕ → Answer
answer_on too_short chunk = refused UnfitMemory
answer_on unformed chunk = refused UnfitMemory
answer_on (formed state) chunk = (chunk_step state chunk).answer

unfoldable pub view_after : View → List ℕ → View
view_after too_short chunk = too_short
view_after unformed chunk = unformed
view_after (formed state) chunk = formed (chunk_step state chunk).state

-- ---- what the code does, step by step

-- long enough and well formed
unfoldable pub fit : List ℕ → Bool
fit mem = both (leb memory_size (length mem)) (well_formed mem)

-- where the data of a chunk goes, and where it ends
abbrev pub start_at : List ℕ → List ℕ → ℕ
start_at mem chunk = pick (is_first chunk) 0 (got_at mem)

abbrev pub end_at : List ℕ → List ℕ → ℕ
end_at mem chunk = start_at mem chunk + (length chunk - head_size)

-- refusal 16 on the numbers in memory
unfoldable pub refuses_at : List ℕ → List ℕ → Bool
refuses_at mem chunk =
    any (is_compressed chunk
    ∷ both (not (is_first chunk)) (eqb (total_at mem) 0)
    ∷ eqb (total_in chunk) 0
    ∷ ltb most (total_in chunk)
    ∷ both (not (is_first chunk)) (not (eqb (total_in chunk) (total_at mem)))
    ∷ ltb (total_in chunk) (end_at mem chunk)
    ∷ both (is_last chunk) (ltb (end_at mem chunk) (total_in chunk))
    ∷ [])

-- memory with a total and how many bytes came noted in it, and with nothing begun
unfoldable pub noted : List ℕ → ℕ → ℕ → List ℕ
noted mem total got = splice (splice mem total_place (bytes_of 4 total)) got_place (bytes_of 4 got)

unfoldable pub emptied : List ℕ → List ℕ
emptied mem = noted mem 0 0

-- memory with the data of a chunk put after what came
unfoldable pub joined_at : List ℕ → List ℕ → List ℕ
joined_at mem chunk = splice mem (start_at mem chunk) (slice chunk head_size (length chunk - head_size))
