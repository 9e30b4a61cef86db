-- The session record on memory: its bodies, delivered in turn to the state as it stood at the mark, give the present state again.
-- Assumes nothing.
use Rattle.std.specs.Prelude.{ℕ, ◌+◌, ◌≡◌, Bool, true, false, List, [], ◌∷◌, map, length, take, replicate}
use Rattle.wire.specs.Tests.{both}
use Rattle.table.specs.Table.{Table}
use Rattle.journal.specs.View.{Memory, formed, view_of}
use Rattle.record.specs.Layout.{head_of, Limits}
use Rattle.record.specs.Reading.{bodies_of}
use Rattle.session.specs.Calls.{Call, reset, deliver, checkpoint, undo, look, write_record, orders}
use Rattle.session.specs.Outcome.{plain, record_to, Response, session_record, CallOutcome}
use Rattle.model.specs.Updates.{Step, single, update, Said, responds, reports}
use Rattle.model.specs.Claim.{Calls}

-- nothing stands after the mark
pub record AtMark (n : Memory) : Type 0 where
  pub table : Table
  pub described : view_of n ≡ formed (record { marked = table; log = [] })

-- so it is after each granted reset and checkpoint
unfoldable pub MarksHere : Type 0
MarksHere =
    (k : ℕ) (m n : Memory) (r : Response) → r.reply.number ≡ 0 → (CallOutcome (plain (reset k)) m r n → AtMark n) × (CallOutcome (plain checkpoint) m r n → AtMark n)

-- a call that leaves the mark where it is
abbrev pub keeps_mark : Call → Bool
keeps_mark (reset n) = false
keeps_mark (deliver o) = true
keeps_mark checkpoint = false
keeps_mark (undo k) = true
keeps_mark (look target) = true
keeps_mark write_record = true

-- a whole update does too: it counts as its deliveries
unfoldable pub all_keep_mark : List Step → Bool
all_keep_mark [] = true
all_keep_mark (single q ∷ xs) = both (keeps_mark q.call) (all_keep_mark xs)
all_keep_mark (update limit s ∷ xs) = all_keep_mark xs

-- the record that a granted call wrote: by its reply it is the first 2 bytes, 8 for each order, and their bytes
abbrev pub written_by : Response → List ℕ
written_by r = take (head_of r.reply.count + r.reply.bytes) r.out

-- orders delivered one after the other
abbrev pub in_turn : List (List ℕ) → List Step
in_turn os = map (λ (o : List ℕ). single (plain (deliver o))) os

unfoldable pub numbers_of : List Said → List ℕ
numbers_of [] = []
numbers_of (responds r ∷ ys) = r.reply.number ∷ numbers_of ys
numbers_of (reports r ∷ ys) = r.number ∷ numbers_of ys

-- each is granted, and the memory describes what m does: the same table at the mark, the same orders since, the same present table
pub record SameAgain (m : Memory) (ys : List Said) (e : Memory) : Type 0 where
  pub numbers : numbers_of ys ≡ replicate (length ys) 0
  pub holds : view_of e ≡ view_of m

-- n stands at a mark, and calls that keep it lead from n to m; there the record is written. Its bodies are delivered in turn on n
unfoldable pub RecordReplays : Type 0
RecordReplays =
    (n m m' e : Memory) (xs : List Step) (ys ds : List Said) (out : List ℕ) (r : Response) → AtMark n → Calls n xs ys m → all_keep_mark xs ≡ true
    → CallOutcome (record_to out) m r m' → r.reply.number ≡ 0 → Calls n (in_turn (bodies_of (written_by r))) ds e → SameAgain m ds e

-- orders within the history room that have the same record are the same: what is handed out tells them
unfoldable pub RecordLosesNothing : Type 0
RecordLosesNothing = (os os' : List (List ℕ)) → Limits os → Limits os' → session_record (orders os) ≡ session_record (orders os') → os ≡ os'
