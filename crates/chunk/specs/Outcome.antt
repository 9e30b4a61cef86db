-- The contracts of the calls on the lent memory. Assumes nothing.
use Rattle.std.specs.Prelude.{ℕ, List, ◌≡◌, length, take, drop, eqb, ltb, Result, Ok, Err}
use Rattle.wire.specs.Tests.{pick}
use Rattle.protocol.specs.declared.Refusal.{Refusal}
use Rattle.protocol.specs.Refusals.{number_of, refused_by}
use Rattle.pdu.specs.Reading.{read_number, read_of}
use Rattle.chunk.specs.Chunk.{State, nothing, Answer, awaited, message, refused, is_last, assembled, refuses15, refuses16}
use Rattle.chunk.specs.Memory.{memory_size, View, too_short, unformed, formed, view_of, answer_on, view_after, emptied}
use Rattle.chunk.specs.declared.Joined.{Joined}
use Rattle.chunk.specs.declared.Joined.TheVariants as J
use Rattle.chunk.specs.declared.Taken.{Taken}
use Rattle.chunk.specs.declared.Taken.TheVariants as T

-- ---- the answers, as the calls give them

unfoldable pub joined_as : Answer → Result Joined Refusal
joined_as (awaited got) = Ok (J.More got)
joined_as (message bytes) = Ok (J.Whole (length bytes))
joined_as (refused e) = Err e

-- a message is read by the plain rules
unfoldable pub taken_as : Answer → Result Taken Refusal
taken_as (awaited got) = Ok (T.More got)
taken_as (message bytes) = Ok (T.Whole (length bytes) (read_of bytes))
taken_as (refused e) = Err e

-- ---- their numbers; a message, read or refused, has its own

unfoldable pub taken_number : Result Taken Refusal → ℕ
taken_number (Ok (T.More got)) = 0
taken_number (Ok (T.Whole len read)) = refused_by read
taken_number (Err e) = number_of e

-- the first number that applies: 1, then 15, then 16, then what the whole message meets
unfoldable pub first_number : State → List ℕ → ℕ → ℕ
first_number state chunk whole = pick (refuses15 chunk) 15 (pick (refuses16 state chunk) 16 (pick (is_last chunk) whole 0))

unfoldable pub join_number : View → List ℕ → ℕ
join_number too_short chunk = 1
join_number unformed chunk = 1
join_number (formed state) chunk = first_number state chunk 0

unfoldable pub take_number : View → List ℕ → ℕ
take_number too_short chunk = 1
take_number unformed chunk = 1
take_number (formed state) chunk = first_number state chunk (read_number (assembled state chunk))

-- ---- the memory afterwards

-- the bytes of a message stand at the start; 16 changes only what says that something is begun, other refusals no byte
unfoldable pub Held : Answer → List ℕ → List ℕ → Type 0
Held (awaited got) mem mem' = Unit {0}
Held (message bytes) mem mem' = take (length bytes) mem' ≡ bytes
Held (refused e) mem mem' = mem' ≡ pick (eqb (number_of e) 16) (emptied mem) mem

-- a call with a chunk whose answer is told as f has it: the answer, what the memory then describes, the bytes past the measure
pub record Served {A : Type 0} (f : Answer → A) (mem chunk : List ℕ) (r : A) (mem' : List ℕ) : Type 0 where
  pub answer : r ≡ f (answer_on (view_of mem) chunk)
  pub view : view_of mem' ≡ view_after (view_of mem) chunk
  pub held : Held (answer_on (view_of mem) chunk) mem mem'
  pub size : length mem' ≡ length mem
  pub rest : drop memory_size mem' ≡ drop memory_size mem

-- ---- the calls

pub record JoinOutcome (mem chunk : List ℕ) (r : Result Joined Refusal) (mem' : List ℕ) : Type 0 where
  pub served : Served joined_as mem chunk r mem'
  pub number : refused_by r ≡ join_number (view_of mem) chunk

pub record TakeOutcome (mem chunk : List ℕ) (r : Result Taken Refusal) (mem' : List ℕ) : Type 0 where
  pub served : Served taken_as mem chunk r mem'
  pub number : taken_number r ≡ take_number (view_of mem) chunk

-- emptying: 1 and no byte changed where the memory is too short, else nothing is begun
pub record ResetOutcome (mem : List ℕ) (r : ℕ) (mem' : List ℕ) : Type 0 where
  pub number : r ≡ pick (ltb (length mem) memory_size) 1 0
  pub view : view_of mem' ≡ pick (ltb (length mem) memory_size) too_short (formed nothing)
  pub memory : mem' ≡ pick (ltb (length mem) memory_size) mem (emptied mem)
  pub size : length mem' ≡ length mem
  pub rest : drop memory_size mem' ≡ drop memory_size mem
