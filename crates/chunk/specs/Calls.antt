-- Calls with chunks one after the other on one lent memory, and the theorem over lists of chunks. Assumes nothing.
use Rattle.std.specs.Prelude.{ℕ, ◌≤◌, true, ◌≡◌, List, [], ◌∷◌, map, length, take}
use Rattle.chunk.specs.Chunk.{State, nothing, Answer, most}
use Rattle.chunk.specs.Memory.{view_of, formed}
use Rattle.chunk.specs.Outcome.{Served}
use Rattle.chunk.specs.Cutting.{answers, state_after, Cut, joined, expected}

-- what calls answer, each telling its answer as f has it, and the memory after the last
pub data Calls {A : Type 0} (f : Answer → A) : List ℕ → List (List ℕ) → List A → List ℕ → Type 0 where
  done : {mem : List ℕ} → Calls f mem [] [] mem
  call : {mem mid end chunk : List ℕ} {r : A} {chunks : List (List ℕ)} {rs : List A}
      → Served f mem chunk r mid → Calls f mid chunks rs end → Calls f mem (chunk ∷ chunks) (r ∷ rs) end

-- any chunks at all: the calls answer as the definition, and the memory describes the definition's state
unfoldable pub AnyChunks : Type 1
AnyChunks =
    (A : Type 0) (f : Answer → A) (mem end : List ℕ) (chunks : List (List ℕ)) (rs : List A) (state : State)
    → view_of mem ≡ formed state → Calls f mem chunks rs end
    → (rs ≡ map f (answers state chunks)) × (view_of end ≡ formed (state_after state chunks))

-- any cutting of 1 to 17,052 uncompressed bytes that obeys flags and totals, empty chunks included, from any well-formed memory:
-- each call but the last awaits more, the last answers as the uncut message, which stands in the memory, and nothing is begun
unfoldable pub AnyCutting : Type 1
AnyCutting =
    (A : Type 0) (f : Answer → A) (m : List ℕ) (parts chunks : List (List ℕ))
    → joined parts ≡ m → 1 ≤ length m → length m ≤ most → Cut (length m) true parts chunks
    → (mem end : List ℕ) (rs : List A) (state : State) → view_of mem ≡ formed state → Calls f mem chunks rs end
    → (rs ≡ map f (expected 0 parts m)) × (view_of end ≡ formed nothing) × (take (length m) end ≡ m)
