-- The ways through the calls on the lent memory, each with its whole outcome. Assumes nothing.
use mathlib.Core.Path.{◌≡◌, refl, sym, ap, subst, ◌∙◌}
use mathlib.Core.Bool.{Bool, true, false}
use mathlib.Core.List.{List}
use Prim.Native.Nat.{ℕ, ◌≤◌, ◌<◌}
use native.Mathlib.Omega.{arith}
use lib.ListN.{length, take, drop}
use lib.Dec.{eqb, leb, ltb}
use borrow.Author.Tests.{le-leb, le-ltb, lt-ltb, ltb-false, ne_eqb}
use Rattle.protocol.specs.declared.Refusal.{Refusal}
use Rattle.protocol.specs.declared.Refusal.TheVariants.{UnfitMemory, ChunkTooShort, BadChunk}
use Rattle.std.specs.Prelude.{Result, Ok, Err}
use Rattle.chunk.specs.Chunk.{State, nothing, begun, Answer, awaited, message, refused, Step, most, head_size, total_in, is_last, assembled, chunk_step}
use Rattle.chunk.specs.Memory.{memory_size, well_formed, state_at, View, too_short, unformed, formed, view_of, answer_on, view_after, fit, end_at, refuses_at, joined_at, noted, emptied}
use Rattle.chunk.specs.Outcome.{joined_as, Held, JoinOutcome, ResetOutcome}
use Rattle.chunk.specs.declared.Joined.{Joined}
use Rattle.chunk.specs.declared.Joined.TheVariants.{More, Whole}
use Rattle.chunk.proofs.Noted.{length_noted, drop_noted, view_noted, length_emptied, take_emptied, drop_emptied, view_emptied}
use Rattle.chunk.proofs.Answers.{joins}
use Rattle.chunk.proofs.Begun.{accepted, fit_long, view_fit, length_assembled, refuses_at_lem, length_joined, drop_joined, take_joined}

-- ---- 1

module _ (mem chunk : List ℕ) where
  -- memory that is not fit describes no state
  no_state : fit mem ≡ false → (s : State) → view_of mem ≡ formed s → ◌≡◌ {A = ℕ} 0 1
  unfolding view_of fit
  no_state t s e = go (ltb (length mem) memory_size) (well_formed mem) refl refl
    where
      go : (a w : Bool) → ltb (length mem) memory_size ≡ a → well_formed mem ≡ w → ◌≡◌ {A = ℕ} 0 1
      go true w ea ew = let z : too_short ≡ formed s = rw ea at e in cc
      go false true ea ew =
          let l : leb memory_size (length mem) ≡ true = le-leb memory_size (length mem) (ltb-false (length mem) memory_size ea) in
          let o : true ≡ false = rw (l, ew) at t in cc
      go false false ea ew = let z : unformed ≡ formed s = rw (ea, ew) at e in cc

  unfit_view : fit mem ≡ false → (v : View) → view_of mem ≡ v → JoinOutcome mem chunk (Err UnfitMemory) mem
  unfolding joined_as answer_on view_after Held
  unfit_view t too_short e = joins (record { answer = rw e; view = rw e; held = rw e; size = refl; rest = refl })
  unfit_view t unformed e = joins (record { answer = rw e; view = rw e; held = rw e; size = refl; rest = refl })
  unfit_view t (formed s) e = let z : ◌≡◌ {A = ℕ} 0 1 = no_state t s e in absurd (omega arith)

  pub unfit : fit mem ≡ false → JoinOutcome mem chunk (Err UnfitMemory) mem
  unfit t = unfit_view t (view_of mem) refl

-- ---- the others: what a step says, carried to the memory

module _ (mem chunk : List ℕ) (ok : fit mem ≡ true) where
  carried : (a : Answer) (s : State) (r : Result Joined Refusal) (mem' : List ℕ)
      → chunk_step (state_at mem) chunk ≡ record { answer = a; state = s } → r ≡ joined_as a → view_of mem' ≡ formed s → Held a mem mem'
      → length mem' ≡ length mem → drop memory_size mem' ≡ drop memory_size mem → JoinOutcome mem chunk r mem'
  unfolding answer_on view_after
  carried a s r mem' e er ev h el ed =
      let ea : answer_on (view_of mem) chunk ≡ a = ap (λ (v : View). answer_on v chunk) (view_fit mem ok) ∙ ap (λ (x : Step). x.answer) e in
      let es : view_after (view_of mem) chunk ≡ formed s = ap (λ (v : View). view_after v chunk) (view_fit mem ok) ∙ ap (λ (x : Step). formed x.state) e in
      joins (record { answer = er ∙ ap joined_as (sym ea); view = ev ∙ sym es; held = subst (λ (x : Answer). Held x mem mem') (sym ea) h; size = el; rest = ed })

  pub short : length chunk < head_size → JoinOutcome mem chunk (Err ChunkTooShort) mem
  unfolding chunk_step joined_as Held
  short h = carried (refused ChunkTooShort) (state_at mem) (Err ChunkTooShort) mem (rw (lt-ltb (length chunk) head_size h)) refl (view_fit mem ok) refl refl refl

  module _ (long : head_size ≤ length chunk) where
    pub refusal : refuses_at mem chunk ≡ true → (mem' : List ℕ) → mem' ≡ emptied mem → JoinOutcome mem chunk (Err BadChunk) mem'
    unfolding chunk_step joined_as Held
    refusal t mem' e =
        carried (refused BadChunk) nothing (Err BadChunk) mem'
        (rw (le-ltb (length chunk) head_size long, refuses_at_lem mem ok chunk long, t))
        refl
        (ap view_of e ∙ view_emptied mem (fit_long mem ok))
        e
        (ap length e ∙ length_emptied mem (fit_long mem ok))
        (ap (drop memory_size) e ∙ drop_emptied mem (fit_long mem ok))

    module _ (t : refuses_at mem chunk ≡ false) where
      pub end_within : end_at mem chunk ≤ most
      end_within = let a = accepted mem chunk t in omega (arith, a.within, a.small)

      pub joined_long : memory_size ≤ length (joined_at mem chunk)
      joined_long = omega (arith, length_joined mem ok chunk long end_within, fit_long mem ok)

      pub awaits : is_last chunk ≡ false → (got : ℕ) → got ≡ end_at mem chunk
          → (mem' : List ℕ) → mem' ≡ noted (joined_at mem chunk) (total_in chunk) (end_at mem chunk) → JoinOutcome mem chunk (Ok (More got)) mem'
      unfolding chunk_step joined_as Held
      awaits l got eg mem' e =
          let a = accepted mem chunk t in
          let n : eqb (total_in chunk) 0 ≡ false = ne_eqb (total_in chunk) 0 (omega (arith, a.some)) in
          let size : length mem' ≡ length mem = ap length e ∙ length_noted (joined_at mem chunk) (total_in chunk) (end_at mem chunk) joined_long ∙ length_joined mem ok chunk long end_within in
          carried (awaited (length (assembled (state_at mem) chunk))) (begun (total_in chunk) (assembled (state_at mem) chunk)) (Ok (More got)) mem'
          (rw (le-ltb (length chunk) head_size long, refuses_at_lem mem ok chunk long, t, l))
          (ap (λ (n : ℕ). Ok (More n)) (eg ∙ sym (length_assembled mem ok chunk long)))
          (ap view_of e
          ∙ view_noted (joined_at mem chunk) (total_in chunk) (end_at mem chunk) joined_long a.small a.within
          ∙ rw (n, take_joined mem ok chunk long end_within))
          tt
          size
          (ap (drop memory_size) e ∙ drop_noted (joined_at mem chunk) (total_in chunk) (end_at mem chunk) joined_long ∙ drop_joined mem ok chunk long end_within)

      -- the message, where it stands afterwards
      stands : is_last chunk ≡ true → (mem' : List ℕ) → mem' ≡ emptied (joined_at mem chunk)
          → take (total_in chunk) mem' ≡ assembled (state_at mem) chunk
      stands l mem' e =
          let a = accepted mem chunk t in
          ap (take (total_in chunk)) e
          ∙ take_emptied (joined_at mem chunk) joined_long (total_in chunk) a.small
          ∙ ap (λ (n : ℕ). take n (joined_at mem chunk)) (sym (a.reached l))
          ∙ take_joined mem ok chunk long end_within

      pub whole : is_last chunk ≡ true → (total : ℕ) → total ≡ total_in chunk
          → (mem' : List ℕ) → mem' ≡ emptied (joined_at mem chunk) → JoinOutcome mem chunk (Ok (Whole total)) mem'
      unfolding chunk_step joined_as Held
      whole l total et mem' e =
          let a = accepted mem chunk t in
          let n : length (assembled (state_at mem) chunk) ≡ total_in chunk = length_assembled mem ok chunk long ∙ a.reached l in
          carried (message (assembled (state_at mem) chunk)) nothing (Ok (Whole total)) mem'
          (rw (le-ltb (length chunk) head_size long, refuses_at_lem mem ok chunk long, t, l))
          (ap (λ (n : ℕ). Ok (Whole n)) (et ∙ sym n))
          (ap view_of e ∙ view_emptied (joined_at mem chunk) joined_long)
          (rw n (stands l mem' e))
          (ap length e ∙ length_emptied (joined_at mem chunk) joined_long ∙ length_joined mem ok chunk long end_within)
          (ap (drop memory_size) e ∙ drop_emptied (joined_at mem chunk) joined_long ∙ drop_joined mem ok chunk long end_within)

-- ---- emptying

module _ (mem : List ℕ) where
  pub reset_short : length mem < memory_size → ResetOutcome mem 1 mem
  unfolding view_of
  reset_short h =
      let t : ltb (length mem) memory_size ≡ true = lt-ltb (length mem) memory_size h in
      record { number = rw t; view = rw t; memory = rw t; size = refl; rest = refl }

  pub reset_long : memory_size ≤ length mem → (mem' : List ℕ) → mem' ≡ emptied mem → ResetOutcome mem 0 mem'
  reset_long h mem' e =
      let t : ltb (length mem) memory_size ≡ false = le-ltb (length mem) memory_size h in
      record {
        number = rw t;
        view = rw t (ap view_of e ∙ view_emptied mem h);
        memory = rw t e;
        size = ap length e ∙ length_emptied mem h;
        rest = ap (drop memory_size) e ∙ drop_emptied mem h;
      }
