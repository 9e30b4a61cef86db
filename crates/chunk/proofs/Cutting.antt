-- Any cutting of a message answers as the uncut message. Assumes nothing.
use mathlib.Core.Path.{◌≡◌, refl, sym, ap, ◌∙◌}
use mathlib.Core.Bool.{Bool, true, false}
use mathlib.Core.List.{List, [], ◌∷◌, ◌++◌, append_assoc, append-nil}
use Prim.Native.Nat.{ℕ, ◌+◌, ◌≤◌}
use native.Mathlib.Omega.{arith}
use lib.ListN.{length, length-append}
use lib.Dec.{ltb}
use borrow.Author.Tests.{le-ltb, ne_eqb, eq-eqb}
use Rattle.wire.specs.Tests.{both}
use Rattle.chunk.specs.Chunk as Chunk
use Rattle.chunk.specs.Chunk.{State, nothing, begun, Answer, awaited, message, Step, head_size, is_nothing, first_total, bytes_so_far, assembled, refuses16, chunk_step}
use Rattle.chunk.specs.Cutting.{answers, state_after, Carries, Cut, cut_last, cut_more, joined, expected, CuttingClaim}

-- the state in which a chunk of a message comes: any for the first, else the bytes so far of the same total
pub data Ready (total : ℕ) : Bool → List ℕ → State → Type 0 where
  afresh : {state : State} → Ready total true [] state
  going : {bytes : List ℕ} → Ready total false bytes (begun total bytes)

-- where parts are left, more is awaited
pub expected_more : {total : ℕ} {parts chunks : List (List ℕ)} → Cut total false parts chunks → (got : ℕ) (part m : List ℕ)
    → expected got (part ∷ parts) m ≡ awaited (got + length part) ∷ expected (got + length part) parts m
unfolding expected
expected_more (cut_last k) got part m = refl
expected_more (cut_more k rest) got part m = refl

module _ (total : ℕ) (positive : 1 ≤ total) (most : total ≤ Chunk.most) where
  -- a chunk adds its part to the bytes so far
  adds : {first last : Bool} {part chunk bytes : List ℕ} {state : State} → Carries total first last part chunk → Ready total first bytes state
      → assembled state chunk ≡ bytes ++ part
  unfolding assembled bytes_so_far
  adds k afresh = rw (k.first_is, k.part_is)
  adds k going = rw (k.first_is, k.part_is)

  accepts : {first last : Bool} {part chunk bytes : List ℕ} {state : State} → Carries total first last part chunk → Ready total first bytes state
      → length (bytes ++ part) ≤ total → both last (ltb (length (bytes ++ part)) total) ≡ false → refuses16 state chunk ≡ false
  unfolding refuses16 is_nothing first_total
  accepts {part = part} k afresh w s =
      rw (adds k afresh, k.plain, k.first_is, k.total_is, k.last_is, ne_eqb total 0 (omega arith), le-ltb Chunk.most total most, le-ltb total (length part) w, s)
  accepts {part = part} k (going {bytes = bytes}) w s =
      rw (adds k (going {bytes = bytes}), k.plain, k.first_is, k.total_is, k.last_is, ne_eqb total 0 (omega arith), le-ltb Chunk.most total most, eq-eqb total total refl, le-ltb total (length (bytes ++ part)) w, s)

  more_step : {first : Bool} {part chunk bytes : List ℕ} {state : State} → Carries total first false part chunk → Ready total first bytes state
      → length (bytes ++ part) ≤ total → chunk_step state chunk ≡ record { answer = awaited (length bytes + length part); state = begun total (bytes ++ part) }
  unfolding chunk_step
  more_step {part = part} {bytes = bytes} k r w =
      rw (le-ltb _ head_size k.long, accepts k r w refl, k.last_is, k.total_is, adds k r, length-append bytes part)

  last_step : {first : Bool} {part chunk bytes : List ℕ} {state : State} → Carries total first true part chunk → Ready total first bytes state
      → length (bytes ++ part) ≡ total → chunk_step state chunk ≡ record { answer = message (bytes ++ part); state = nothing }
  unfolding chunk_step
  last_step k r e =
      rw (le-ltb _ head_size k.long, accepts k r (omega (arith, e)) (le-ltb _ total (omega (arith, e))), k.last_is, adds k r)

  -- the chunks that are left, from any point of the message on
  run : (m bytes : List ℕ) (got : ℕ) (first : Bool) (parts chunks : List (List ℕ)) (state : State) → length m ≡ total → bytes ++ joined parts ≡ m
      → length bytes ≡ got → Cut total first parts chunks → Ready total first bytes state
      → (answers state chunks ≡ expected got parts m) × (state_after state chunks ≡ nothing)
  unfolding answers state_after joined expected
  run m bytes got first (part ∷ []) (chunk ∷ []) state l e g (cut_last k) r =
      let j : bytes ++ part ≡ m = ap (λ (x : List ℕ). bytes ++ x) (sym (append-nil part)) ∙ e in
      let s : chunk_step state chunk ≡ record { answer = message (bytes ++ part); state = nothing } = last_step k r (ap length j ∙ l) in
      (rw (s, j), ap (λ (x : Step). x.state) s)
  run m bytes got first (part ∷ parts) (chunk ∷ chunks) state l e g (cut_more k rest) r =
      let j : (bytes ++ part) ++ joined parts ≡ m = append_assoc bytes part (joined parts) ∙ e in
      let w : length (bytes ++ part) + length (joined parts) ≡ total = sym (length-append (bytes ++ part) (joined parts)) ∙ ap length j ∙ l in
      let s : chunk_step state chunk ≡ record { answer = awaited (length bytes + length part); state = begun total (bytes ++ part) } = more_step k r (omega (arith, w)) in
      let n : length (bytes ++ part) ≡ got + length part = length-append bytes part ∙ ap (λ (x : ℕ). x + length part) g in
      let z = run m (bytes ++ part) (got + length part) false parts chunks (begun total (bytes ++ part)) l j n rest going in
      (rw (s, g) (ap (λ (x : List Answer). awaited (got + length part) ∷ x) z.0 ∙ sym (expected_more rest got part m)), ap (λ (x : Step). state_after x.state chunks) s ∙ z.1)
  run m bytes got first [] chunks state l e g x5 r = elim x5 [ ]
  run m bytes got first (part ∷ parts) [] state l e g x11 r = elim x11 [ ]

pub cutting : CuttingClaim
unfolding CuttingClaim
cutting m parts chunks e p w c state = run (length m) p w m [] 0 true parts chunks state refl e refl c afresh
