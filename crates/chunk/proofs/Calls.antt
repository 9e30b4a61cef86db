-- Calls one after the other answer as the definition, and any cutting as the uncut message. Assumes nothing.
use mathlib.Core.Path.{◌≡◌, refl, sym, ap, subst, ◌∙◌}
use mathlib.Core.Bool.{Bool}
use mathlib.Core.List.{List, [], ◌∷◌, map}
use Prim.Native.Nat.{ℕ, ◌+◌}
use lib.ListN.{length, take}
use Rattle.chunk.specs.Chunk.{State, Answer, awaited, message, chunk_step}
use Rattle.chunk.specs.Memory.{View, formed, view_of, answer_on, view_after}
use Rattle.chunk.specs.Outcome.{Held, Served}
use Rattle.chunk.specs.Cutting.{answers, state_after, expected, CuttingClaim, Cut, cut_last, cut_more}
use Rattle.chunk.specs.Calls.{Calls, done, call, AnyChunks, AnyCutting}
use Rattle.chunk.proofs.Cutting.{cutting, expected_more}

module _ {A : Type 0} (f : Answer → A) where
  -- one call, from memory that describes a state
  module _ (mem chunk mid : List ℕ) (r : A) (state : State) (o : Served f mem chunk r mid) (v : view_of mem ≡ formed state) where
    says : answer_on (view_of mem) chunk ≡ (chunk_step state chunk).answer
    unfolding answer_on
    says = ap (λ (x : View). answer_on x chunk) v

    describes : view_of mid ≡ formed (chunk_step state chunk).state
    unfolding view_after
    describes = o.view ∙ ap (λ (x : View). view_after x chunk) v

    answers-as : r ≡ f (chunk_step state chunk).answer
    answers-as = o.answer ∙ ap f says

    stands-as : (m : List ℕ) → (chunk_step state chunk).answer ≡ message m → take (length m) mid ≡ m
    unfolding Held
    stands-as m e = subst (λ (a : Answer). Held a mem mid) (says ∙ e) o.held

  no_call : {mid end : List ℕ} {rs : List A} → Calls f mid [] rs end → mid ≡ end
  no_call done = refl

  -- the message stands in the memory after the last call
  stands : (mem end m chunk : List ℕ) (parts chunks : List (List ℕ)) (total got : ℕ) (first : Bool) (rs : List A) (state : State)
      → view_of mem ≡ formed state → Calls f mem (chunk ∷ chunks) rs end → Cut total first parts (chunk ∷ chunks)
      → answers state (chunk ∷ chunks) ≡ expected got parts m → take (length m) end ≡ m
  unfolding answers expected
  stands mem end m chunk (part ∷ parts) [] total got first (r ∷ rs) state v (call {mid = mid} o rest) (cut_last k) e =
      let a : (chunk_step state chunk).answer ≡ message m = cc in
      ap (take (length m)) (sym (no_call rest)) ∙ stands-as mem chunk mid r state o v m a
  stands mem end m chunk (part ∷ parts) (next ∷ chunks) total got first (r ∷ rs) state v (call {mid = mid} o rest) (cut_more k more) e =
      let x : expected got (part ∷ parts) m ≡ awaited (got + length part) ∷ expected (got + length part) parts m = expected_more more got part m in
      let t : answers (chunk_step state chunk).state (next ∷ chunks) ≡ expected (got + length part) parts m = cc in
      stands mid end m next parts chunks total (got + length part) _ rs (chunk_step state chunk).state (describes mem chunk mid r state o v) rest more t
  stands mem end m chunk [] chunks total got first rs state v _ x5 e = elim x5 [ ]
  stands mem end m chunk (part ∷ parts) [] total got first [] state v x13 _ e = elim x13 [ ]
  stands mem end m chunk (part ∷ parts) [] total got first (r ∷ rs) state v (call {mid = mid} o rest) (cut_more k more) e = elim more [ ]
  stands mem end m chunk (part ∷ parts) (next ∷ chunks) total got first [] state v x14 _ e = elim x14 [ ]

pub any_chunks : AnyChunks
unfolding AnyChunks answers state_after
any_chunks A f mem end [] [] state v done = (refl, v)
any_chunks A f mem end (chunk ∷ chunks) (r ∷ rs) state v (call {mid = mid} o rest) =
    let z = any_chunks A f mid end chunks rs (chunk_step state chunk).state (describes f mem chunk mid r state o v) rest in
    (ap (λ x. x ∷ rs) (answers-as f mem chunk mid r state o v) ∙ ap (λ xs. f (chunk_step state chunk).answer ∷ xs) z.0, z.1)
any_chunks A f mem end [] (r ∷ rs) state v x4 = elim x4 [ ]
any_chunks A f mem end (chunk ∷ chunks) [] state v x4 = elim x4 [ ]

pub any_cutting : AnyCutting
unfolding AnyCutting CuttingClaim AnyChunks
any_cutting A f m parts (chunk ∷ chunks) e p w c mem end rs state v t =
    let a = cutting m parts (chunk ∷ chunks) e p w c state in
    let z = any_chunks A f mem end (chunk ∷ chunks) rs state v t in
    (z.0 ∙ ap (map f) a.0, z.1 ∙ ap formed a.1, stands f mem end m chunk parts chunks (length m) 0 _ rs state v t c a.0)
any_cutting A f m parts [] e p w c mem end rs state v t = elim c [ ]
