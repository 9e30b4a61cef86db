-- The rules of chunks, one by one, and cases in bytes. Assumes nothing.
use mathlib.Core.Path.{◌≡◌, refl}
use mathlib.Core.Bool.{Bool, true, false}
use mathlib.Core.List.{List, [], ◌∷◌, ◌++◌}
use Prim.Native.Nat.{ℕ, ◌≤◌, ◌<◌}
use lib.ListN.{length}
use borrow.Author.Tests.{lt-ltb, le-ltb}
use Rattle.protocol.specs.declared.Refusal.TheVariants.{ChunkTooShort, BadChunk}
use Rattle.wire.specs.Tests.{pick}
use Rattle.wire.specs.Numbers.{num_at}
use Rattle.chunk.specs.Chunk.{State, nothing, begun, Answer, awaited, message, refused, Step, head_size, total_in, is_first, is_last, is_nothing, first_total, bytes_so_far, assembled, refuses15, refuses16, chunk_step}
use Rattle.chunk.specs.Cutting.{answers}

-- a first chunk drops what was begun and starts afresh
pub first_afresh : (state : State) (chunk : List ℕ) → head_size ≤ length chunk → is_first chunk ≡ true → chunk_step state chunk ≡ chunk_step nothing chunk
unfolding chunk_step refuses16 assembled
first_afresh state chunk long first = rw (le-ltb (length chunk) head_size long, first)

-- 15 leaves what was begun, 16 drops it
pub short_leaves : (state : State) (chunk : List ℕ) → length chunk < head_size → chunk_step state chunk ≡ record { answer = refused ChunkTooShort; state = state }
unfolding chunk_step
short_leaves state chunk h = rw (lt-ltb (length chunk) head_size h)

pub refusal_drops : (state : State) (chunk : List ℕ) → head_size ≤ length chunk → refuses16 state chunk ≡ true
    → chunk_step state chunk ≡ record { answer = refused BadChunk; state = nothing }
unfolding chunk_step
refusal_drops state chunk long t = rw (le-ltb (length chunk) head_size long, t)

-- a last chunk, of a message or refused by 16, leaves nothing begun
pub last_leaves : (state : State) (chunk : List ℕ) → head_size ≤ length chunk → is_last chunk ≡ true → (chunk_step state chunk).state ≡ nothing
unfolding chunk_step
last_leaves state chunk long last = go (refuses16 state chunk) (is_last chunk) last
  where
    go : (t l : Bool) → l ≡ true
        → (pick {A = Step} (refuses15 chunk) (record { answer = refused ChunkTooShort; state = state }) (pick t (record { answer = refused BadChunk; state = nothing }) (pick l (record { answer = message (assembled state chunk); state = nothing }) (record { answer = awaited (length (assembled state chunk)); state = begun (total_in chunk) (assembled state chunk) })))).state ≡ nothing
    go true l h = rw (le-ltb (length chunk) head_size long)
    go false l h = rw (le-ltb (length chunk) head_size long, h)

-- ---- cases in bytes

-- a total of n below 256, flags in the low byte, data
abbrev chunk : ℕ → ℕ → List ℕ → List ℕ
chunk n flags bytes = n ∷ 0 ∷ 0 ∷ 0 ∷ flags ∷ 0 ∷ 0 ∷ 0 ∷ bytes

-- 05000800 B11D0000: Handshake, build 7601
abbrev head : List ℕ
head = 0x05 ∷ 0x00 ∷ 0x08 ∷ 0x00 ∷ []

abbrev build : List ℕ
build = 0xB1 ∷ 0x1D ∷ 0x00 ∷ 0x00 ∷ []

abbrev handshake : Answer
handshake = message (head ++ build)

pub record Case : Type 0 where
  pub chunks : List (List ℕ)
  pub answer : List Answer

-- a message in one chunk; all its bytes before the last chunk; empty chunks; a chunk of 2 bytes; a first chunk in the middle; a total of 0,
-- nothing begun, a short last chunk; a message of 3 bytes
pub cases : List Case
cases =
    record { chunks = chunk 8 3 (head ++ build) ∷ []; answer = handshake ∷ [] }
    ∷ record { chunks = chunk 8 1 (head ++ build) ∷ chunk 8 2 [] ∷ []; answer = awaited 8 ∷ handshake ∷ [] }
    ∷ record { chunks = chunk 8 1 head ∷ chunk 8 0x20 [] ∷ chunk 0 0x40 [] ∷ chunk 8 2 build ∷ []; answer = awaited 4 ∷ awaited 4 ∷ refused BadChunk ∷ refused BadChunk ∷ [] }
    ∷ record { chunks = chunk 8 1 head ∷ (8 ∷ 0 ∷ []) ∷ chunk 8 2 build ∷ []; answer = awaited 4 ∷ refused ChunkTooShort ∷ handshake ∷ [] }
    ∷ record { chunks = chunk 8 1 build ∷ chunk 8 1 head ∷ chunk 8 2 build ∷ []; answer = awaited 4 ∷ awaited 4 ∷ handshake ∷ [] }
    ∷ record { chunks = chunk 0 3 [] ∷ chunk 8 2 build ∷ chunk 8 3 head ∷ []; answer = refused BadChunk ∷ refused BadChunk ∷ refused BadChunk ∷ [] }
    ∷ record { chunks = chunk 3 3 (5 ∷ 0 ∷ 8 ∷ []) ∷ []; answer = message (5 ∷ 0 ∷ 8 ∷ []) ∷ [] }
    ∷ []

pub answers_of : List Case → List (List Answer)
answers_of [] = []
answers_of (c ∷ cs) = answers nothing c.chunks ∷ answers_of cs

pub expected_of : List Case → List (List Answer)
expected_of [] = []
expected_of (c ∷ cs) = c.answer ∷ expected_of cs

pub cases_hold : answers_of cases ≡ expected_of cases
unfolding answers_of expected_of cases answers chunk_step refuses16 assembled is_nothing first_total bytes_so_far num_at
cases_hold = refl
