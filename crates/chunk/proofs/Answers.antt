-- What an answer of `join` says of the definition's: the number, the values, and so the answer of any call that tells it in another way.
-- Assumes nothing.
use mathlib.Core.Path.{◌≡◌, refl, sym, ap, subst, ◌∙◌}
use mathlib.Core.Bool.{Bool, true, false}
use mathlib.Core.List.{List}
use Prim.Native.Nat.{ℕ, ◌≤◌, ◌<◌}
use native.Mathlib.Omega.{arith}
use lib.ListN.{length, take, length-take}
use Rattle.wire.specs.Tests.{pick}
use Rattle.std.specs.Prelude.{Result, Ok, Err}
use Rattle.protocol.specs.declared.Refusal.{Refusal}
use Rattle.protocol.specs.declared.Refusal.TheVariants.{ChunkTooShort, BadChunk}
use Rattle.protocol.specs.Refusals.{number_of, refused_by}
use Rattle.pdu.specs.declared.Pdu.{Pdu}
use Rattle.pdu.specs.Reading.{read_number, read_of}
use Rattle.chunk.specs.Chunk.{State, nothing, begun, Answer, awaited, message, refused, Step, most, total_in, is_last, assembled, refuses15, refuses16, chunk_step}
use Rattle.chunk.specs.Memory.{View, too_short, unformed, formed, view_of, answer_on}
use Rattle.chunk.specs.Outcome.{joined_as, taken_as, taken_number, first_number, join_number, take_number, Held, Served, JoinOutcome, TakeOutcome}
use Rattle.chunk.specs.declared.Joined.{Joined}
use Rattle.chunk.specs.declared.Joined.TheVariants as J
use Rattle.chunk.specs.declared.Taken.{Taken}
use Rattle.chunk.specs.declared.Taken.TheVariants as T
use Rattle.chunk.proofs.Begun.{accepted_in}

-- ---- any fact of a step's answer, from that of its four ways

module _ (C : Answer → Type 0) (state : State) (chunk : List ℕ) where
  each : (a b l : Bool) → refuses16 state chunk ≡ b
      → C (refused ChunkTooShort) → C (refused BadChunk) → (refuses16 state chunk ≡ false → C (message (assembled state chunk))) → (refuses16 state chunk ≡ false → C (awaited (length (assembled state chunk))))
      → C (pick {A = Step} a (record { answer = refused ChunkTooShort; state = state }) (pick b (record { answer = refused BadChunk; state = nothing }) (pick l (record { answer = message (assembled state chunk); state = nothing }) (record { answer = awaited (length (assembled state chunk)); state = begun (total_in chunk) (assembled state chunk) })))).answer
  each true b l e x y m w = x
  each false true l e x y m w = y
  each false false true e x y m w = m e
  each false false false e x y m w = w e

  pub every : C (refused ChunkTooShort) → C (refused BadChunk) → (refuses16 state chunk ≡ false → C (message (assembled state chunk)))
      → (refuses16 state chunk ≡ false → C (awaited (length (assembled state chunk)))) → C (chunk_step state chunk).answer
  unfolding chunk_step
  every x y m w = each (refuses15 chunk) (refuses16 state chunk) (is_last chunk) refl x y m w

le_of_take : (n : ℕ) (xs : List ℕ) → length (take n xs) ≡ n → n ≤ length xs
le_of_take n xs e = omega (arith, sym (length-take n xs) ∙ e)

-- ---- no answer has more than 17,052 bytes, or a number of more than a byte

abbrev pub Small : Answer → Type 0
Small (awaited got) = got ≤ most
Small (message bytes) = length bytes ≤ most
Small (refused e) = number_of e < 256

pub small : (v : View) (chunk : List ℕ) → Small (answer_on v chunk)
unfolding answer_on
small too_short chunk = omega arith
small unformed chunk = omega arith
small (formed state) chunk =
    every Small state chunk (omega arith) (omega arith)
    (λ e. let a = accepted_in state chunk e in omega (arith, a.small, a.within))
    (λ e. let a = accepted_in state chunk e in omega (arith, a.small, a.within))

-- ---- the numbers

module _ (state : State) (chunk : List ℕ) where
  number_go : (whole : ℕ) (g : Answer → ℕ) → g (refused ChunkTooShort) ≡ 15 → g (refused BadChunk) ≡ 16 → g (message (assembled state chunk)) ≡ whole → g (awaited (length (assembled state chunk))) ≡ 0
      → g (chunk_step state chunk).answer ≡ first_number state chunk whole
  unfolding chunk_step first_number
  number_go whole g e15 e16 em ea = go (refuses15 chunk) (refuses16 state chunk) (is_last chunk)
    where
      go : (a b l : Bool)
          → g (pick {A = Step} a (record { answer = refused ChunkTooShort; state = state }) (pick b (record { answer = refused BadChunk; state = nothing }) (pick l (record { answer = message (assembled state chunk); state = nothing }) (record { answer = awaited (length (assembled state chunk)); state = begun (total_in chunk) (assembled state chunk) })))).answer
          ≡ pick a 15 (pick b 16 (pick l whole 0))
      go true b l = e15
      go false true l = e16
      go false false true = em
      go false false false = ea

join_number_lem : (v : View) (chunk : List ℕ) → refused_by (joined_as (answer_on v chunk)) ≡ join_number v chunk
unfolding joined_as answer_on join_number
join_number_lem too_short chunk = refl
join_number_lem unformed chunk = refl
join_number_lem (formed state) chunk = number_go state chunk 0 (λ a. refused_by (joined_as a)) refl refl refl refl

-- the number of what a message reads as
pub number_read : (s : List ℕ) → refused_by (read_of s) ≡ read_number s
unfolding read_number
number_read s = refl

pub take_number_lem : (v : View) (chunk : List ℕ) → taken_number (taken_as (answer_on v chunk)) ≡ take_number v chunk
unfolding taken_number taken_as answer_on take_number
take_number_lem too_short chunk = refl
take_number_lem unformed chunk = refl
take_number_lem (formed state) chunk = number_go state chunk (read_number (assembled state chunk)) (λ a. taken_number (taken_as a)) refl refl (number_read (assembled state chunk)) refl

module _ {mem chunk mem' : List ℕ} where
  pub joins : {r : Result Joined Refusal} → Served joined_as mem chunk r mem' → JoinOutcome mem chunk r mem'
  joins o = record { served = o; number = ap refused_by o.answer ∙ join_number_lem (view_of mem) chunk }

  takes : {r : Result Taken Refusal} → Served taken_as mem chunk r mem' → TakeOutcome mem chunk r mem'
  takes o = record { served = o; number = ap taken_number o.answer ∙ take_number_lem (view_of mem) chunk }

  module _ {r : Result Joined Refusal} (o : JoinOutcome mem chunk r mem') where
    -- the same call, its answer told in another way
    pub told : {A : Type 0} (f : Answer → A) (x : A) (a : Answer) → answer_on (view_of mem) chunk ≡ a → x ≡ f a → Served f mem chunk x mem'
    told f x a e ex = record { answer = ex ∙ ap f (sym e); view = o.served.view; held = o.served.held; size = o.served.size; rest = o.served.rest }

    -- ---- more is awaited

    pub more_is : (got : ℕ) → r ≡ Ok (J.More got) → answer_on (view_of mem) chunk ≡ awaited got
    unfolding joined_as
    more_is got e = go (answer_on (view_of mem) chunk) (sym o.served.answer ∙ e)
      where
        go : (a : Answer) → joined_as a ≡ Ok (J.More got) → a ≡ awaited got
        go (awaited n) h = let x : n ≡ got = cc in ap awaited x
        go (message bytes) h = let z : ◌≡◌ {A = ℕ} 0 1 = cc in absurd (omega arith)
        go (refused n) h = let z : ◌≡◌ {A = ℕ} 0 1 = cc in absurd (omega arith)

    pub more_small : (got : ℕ) → r ≡ Ok (J.More got) → got ≤ most
    more_small got e = subst Small (more_is got e) (small (view_of mem) chunk)

    pub more_taken : (got : ℕ) → r ≡ Ok (J.More got) → TakeOutcome mem chunk (Ok (T.More got)) mem'
    unfolding taken_as
    more_taken got e = takes (told taken_as (Ok (T.More got)) (awaited got) (more_is got e) refl)

    -- ---- a whole message, which stands at the start of the memory

    whole-both : (len : ℕ) → r ≡ Ok (J.Whole len) → (answer_on (view_of mem) chunk ≡ message (take len mem')) × (length (take len mem') ≡ len)
    unfolding joined_as Held
    whole-both len e = go (answer_on (view_of mem) chunk) (sym o.served.answer ∙ e) o.served.held
      where
        go : (a : Answer) → joined_as a ≡ Ok (J.Whole len) → Held a mem mem' → (a ≡ message (take len mem')) × (length (take len mem') ≡ len)
        go (awaited n) h w = let z : ◌≡◌ {A = ℕ} 0 1 = cc in absurd (omega arith)
        go (message bytes) h w =
            let x : length bytes ≡ len = cc in
            let b : take len mem' ≡ bytes = ap (λ (n : ℕ). take n mem') (sym x) ∙ w in
            (ap message (sym b), ap length b ∙ x)
        go (refused n) h w = let z : ◌≡◌ {A = ℕ} 0 1 = cc in absurd (omega arith)

    pub whole_is : (len : ℕ) → r ≡ Ok (J.Whole len) → answer_on (view_of mem) chunk ≡ message (take len mem')
    whole_is len e = (whole-both len e).0

    pub whole_length : (len : ℕ) → r ≡ Ok (J.Whole len) → length (take len mem') ≡ len
    whole_length len e = (whole-both len e).1

    pub whole_small : (len : ℕ) → r ≡ Ok (J.Whole len) → len ≤ most
    whole_small len e = let s : length (take len mem') ≤ most = subst Small (whole_is len e) (small (view_of mem) chunk) in omega (arith, s, whole_length len e)

    pub whole_inside : (len : ℕ) → r ≡ Ok (J.Whole len) → len ≤ length mem'
    whole_inside len e = le_of_take len mem' (whole_length len e)

    pub whole_taken : (len : ℕ) → r ≡ Ok (J.Whole len) → (read : Result Pdu Refusal) → read ≡ read_of (take len mem') → TakeOutcome mem chunk (Ok (T.Whole len read)) mem'
    unfolding taken_as
    whole_taken len e read er = takes (told taken_as (Ok (T.Whole len read)) (message (take len mem')) (whole_is len e) (rw (whole_length len e, er)))

    -- ---- a refusal

    pub refused_is : (e : Refusal) → r ≡ Err e → answer_on (view_of mem) chunk ≡ refused e
    unfolding joined_as
    refused_is e q = go (answer_on (view_of mem) chunk) (sym o.served.answer ∙ q)
      where
        go : (a : Answer) → joined_as a ≡ Err e → a ≡ refused e
        go (awaited k) h = let z : ◌≡◌ {A = ℕ} 0 1 = cc in absurd (omega arith)
        go (message bytes) h = let z : ◌≡◌ {A = ℕ} 0 1 = cc in absurd (omega arith)
        go (refused k) h = let x : k ≡ e = cc in ap refused x

    pub refused_taken : (e : Refusal) → r ≡ Err e → TakeOutcome mem chunk (Err e) mem'
    unfolding taken_as
    refused_taken e q = takes (told taken_as (Err e) (refused e) (refused_is e q) refl)
