-- A message cut into chunks, and chunks joined one after the other. Assumes nothing.
use Rattle.std.specs.Prelude.{ℕ, ◌+◌, ◌≤◌, ◌<◌, Bool, true, false, ◌≡◌, List, [], ◌∷◌, ◌++◌, length}
use Rattle.wire.specs.Tests.{has}
use Rattle.wire.specs.Numbers.{bytes_of}
use Rattle.chunk.specs.Chunk.{State, nothing, Answer, awaited, message, most, head_size, flag_first, flag_last, compressed, total_in, data_in, is_first, is_last, is_compressed, chunk_step}

-- the answers to chunks joined one after the other, and the state at the end
unfoldable pub answers : State → List (List ℕ) → List Answer
answers state [] = []
answers state (c ∷ cs) = (chunk_step state c).answer ∷ answers (chunk_step state c).state cs

unfoldable pub state_after : State → List (List ℕ) → State
state_after state [] = state
state_after state (c ∷ cs) = state_after (chunk_step state c).state cs

-- an uncompressed chunk that carries a part of a message; its other flag bits are free
pub record Carries (total : ℕ) (first last : Bool) (part chunk : List ℕ) : Type 0 where
  pub long : head_size ≤ length chunk
  pub total_is : total_in chunk ≡ total
  pub first_is : is_first chunk ≡ first
  pub last_is : is_last chunk ≡ last
  pub plain : is_compressed chunk ≡ false
  pub part_is : data_in chunk ≡ part

-- chunks that obey flags and totals: they carry the parts of a message in order, the last one with the last flag. A part may be empty
pub data Cut (total : ℕ) : Bool → List (List ℕ) → List (List ℕ) → Type 0 where
  cut_last : {first : Bool} {part chunk : List ℕ} → Carries total first true part chunk → Cut total first (part ∷ []) (chunk ∷ [])
  cut_more : {first : Bool} {part chunk : List ℕ} {parts chunks : List (List ℕ)}
      → Carries total first false part chunk → Cut total false parts chunks → Cut total first (part ∷ parts) (chunk ∷ chunks)

unfoldable pub joined : List (List ℕ) → List ℕ
joined [] = []
joined (part ∷ parts) = part ++ joined parts

-- after got bytes: more awaited for each part but the last, then the message m
unfoldable pub expected : ℕ → List (List ℕ) → List ℕ → List Answer
expected got [] m = []
expected got (p ∷ []) m = message m ∷ []
expected got (p ∷ q ∷ ps) m = awaited (got + length p) ∷ expected (got + length p) (q ∷ ps) m

-- any cutting of 1 to 17,052 uncompressed bytes, joined to anything begun: the answer is the uncut message
unfoldable pub CuttingClaim : Type 0
CuttingClaim =
    (m : List ℕ) (parts chunks : List (List ℕ)) → joined parts ≡ m → 1 ≤ length m → length m ≤ most
    → Cut (length m) true parts chunks → (state : State)
    → (answers state chunks ≡ expected 0 parts m) × (state_after state chunks ≡ nothing)

-- ---- the same with the chunks' bytes

-- the chunk of a total, flags and a part
unfoldable pub chunk_of : ℕ → ℕ → List ℕ → List ℕ
chunk_of total flags part = bytes_of 4 total ++ (bytes_of 4 flags ++ part)

-- flags with or without the first and the last bit and without the compressed one, the other bits free
pub record Flags (flags : ℕ) (first last : Bool) : Type 0 where
  pub small : flags < 4294967296
  pub first_is : has flags flag_first ≡ first
  pub last_is : has flags flag_last ≡ last
  pub plain : has flags compressed ≡ false

-- flags for each part, the first bit on the first and the last bit on the last
pub data Marks : Bool → List ℕ → List (List ℕ) → Type 0 where
  mark_last : {first : Bool} {flags : ℕ} {part : List ℕ} → Flags flags first true → Marks first (flags ∷ []) (part ∷ [])
  mark_more : {first : Bool} {flags : ℕ} {part : List ℕ} {rest : List ℕ} {parts : List (List ℕ)}
      → Flags flags first false → Marks false rest parts → Marks first (flags ∷ rest) (part ∷ parts)

unfoldable pub sent : ℕ → List ℕ → List (List ℕ) → List (List ℕ)
sent total [] parts = []
sent total (f ∷ fs) [] = []
sent total (f ∷ fs) (part ∷ parts) = chunk_of total f part ∷ sent total fs parts

unfoldable pub SendingClaim : Type 0
SendingClaim =
    (m : List ℕ) (parts : List (List ℕ)) (flags : List ℕ) → joined parts ≡ m → 1 ≤ length m → length m ≤ most
    → Marks true flags parts → (state : State)
    → (answers state (sent (length m) flags parts) ≡ expected 0 parts m)
    × (state_after state (sent (length m) flags parts) ≡ nothing)
