-- Document 01 on "well formed": an emptied state meets the rule, every call keeps it, and memory that meets it describes one
-- state, within the history room. Assumes nothing.
use Rattle.std.specs.Prelude.{ℕ, ◌≤◌, ◌≡◌, true, false, List, [], length, replicate}
use Rattle.table.specs.Table.{emptied}
use Rattle.table.specs.Memory.{fixed_by}
use Rattle.journal.specs.Limits.{most_orders, most_bytes}
use Rattle.journal.specs.State.{State, bytes_in, all_accepted}
use Rattle.journal.specs.View.{Memory, memory, too_short, well_formed, formed, view_of}
use Rattle.session.specs.Calls.{Call, reset, Answer, next, answer_view}
use Rattle.session.specs.Outcome.{Request, plain, Response, replied, CallOutcome}

pub record Meets (m : Memory) : Type 0 where
  pub long : too_short m ≡ false
  pub rule : well_formed m ≡ true

-- an emptied state counts as marked
abbrev pub emptied_state : ℕ → State
emptied_state n = record { marked = emptied (fixed_by n); log = [] }

-- emptying is granted where no part is too short
unfoldable pub EmptyingGranted : Type 0
EmptyingGranted =
    (k : ℕ) (m n : Memory) (r : Response) → too_short m ≡ false → CallOutcome (plain (reset k)) m r n → r ≡ replied (record { number = 0; count = 0; bytes = 0 })

-- and where it is granted, what it leaves meets the rule
unfoldable pub EmptiedMeets : Type 0
EmptiedMeets = (k : ℕ) (m n : Memory) (r : Response) → CallOutcome (plain (reset k)) m r n → r.reply.number ≡ 0 → Meets n × (view_of n ≡ formed (emptied_state k))

-- memory of zeros has no place fixed, so it is not an emptied state: every call but emptying answers 1
unfoldable pub ZerosUnformed : Type 0
ZerosUnformed = (a : ℕ) (b : List ℕ) (p : List (List ℕ)) (j : List ℕ) → well_formed (memory (replicate a 0) b p j) ≡ false

-- each call, refused or not
unfoldable pub CallsKeep : Type 0
CallsKeep =
    (q : Request) (m n : Memory) (r : Response) (s : State) → CallOutcome q m r n → view_of m ≡ formed s → Meets n × (view_of n ≡ formed (next q.call s))

-- some state, no other, its orders are accepted in turn from its table at the mark on, and they fit the history room
pub record Describes (m : Memory) : Type 0 where
  pub state : State
  pub described : view_of m ≡ formed state
  pub only : (s : State) → view_of m ≡ formed s → s ≡ state
  pub accepted : all_accepted state.marked state.log ≡ true
  pub few : length state.log ≤ most_orders
  pub bytes : bytes_in state.log ≤ most_bytes

unfoldable pub OneState : Type 0
OneState = (m : Memory) → Meets m → Describes m

-- memory that describes a state meets the rule
unfoldable pub OnlyMeets : Type 0
OnlyMeets = (m : Memory) (s : State) → view_of m ≡ formed s → Meets m

-- what any call reports fits the history room, whatever the memory
abbrev pub Fits : Answer → Type 0
Fits a = (a.count ≤ most_orders) × (a.bytes ≤ most_bytes)

unfoldable pub RepliesFit : Type 0
RepliesFit = (c : Call) (m : Memory) → Fits (answer_view c (view_of m))
