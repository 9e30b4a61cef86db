-- Request No. 13, two editors side by side: two window orders naming different windows, neither bringing an icon or naming a cell,
-- get the same number each and leave the same table in either order. Refused orders are among them. Assumes nothing.
use Rattle.std.specs.Prelude.{ℕ, ◌+◌, ◌≤◌, ◌≡◌, Bool, true, false, not, List, [], ◌∷◌, eqb, length, Ok, Err}
use Rattle.wire.specs.Tests.{all, has}
use Rattle.wire.specs.Numbers.{num_at}
use Rattle.order.specs.declared.Order.TheVariants.{Window, Notification, Desktop}
use Rattle.order.specs.Flags.{is_window}
use Rattle.order.specs.Judge.{Judged, flags_of, judge_of}
use Rattle.places.specs.declared.Family.TheVariants as family
use Rattle.places.specs.Sharing.{Sharing}
use Rattle.table.specs.Table.{Table}
use Rattle.journal.specs.Limits.{most_orders, most_bytes}
use Rattle.journal.specs.State.{State, present, bytes_in}
use Rattle.journal.specs.View.{Memory, formed, view_of}
use Rattle.session.specs.Calls.{deliver, answer, next}
use Rattle.session.specs.Outcome.{plain, Response, CallOutcome}
use Rattle.protocol.specs.Flags.{flag_icon, flag_cached_icon}

-- ---- the orders

-- a window order that names window id, brings no icon and names no cell; or bytes that are refused for themselves (2 to 8)
abbrev pub edits : ℕ → Judged → Bool
edits id (Ok (Window o)) = all (eqb o.window.id id ∷ not (has o.flags flag_icon) ∷ not (has o.flags flag_cached_icon) ∷ [])
edits id (Ok (Notification o)) = false
edits id (Ok (Desktop o)) = false
edits id (Err r) = true

-- the same, read from the bytes of any order, refused or not: flagged as a window's, without icon and cached icon
pub record WindowFlags (s : List ℕ) : Type 0 where
  pub window : is_window (flags_of s) ≡ true
  pub no_icon : has (flags_of s) flag_icon ≡ false
  pub no_cell : has (flags_of s) flag_cached_icon ≡ false

-- the window that it names
abbrev pub window_named : List ℕ → ℕ
window_named s = num_at 4 s 7

unfoldable pub FlagsSay : Type 0
FlagsSay = (s : List ℕ) → WindowFlags s → edits (window_named s) (judge_of s) ≡ true

-- ---- on states

-- a table whose listed windows are counted
abbrev pub WindowsCount : Table → Type 0
WindowsCount t = (id : ℕ) → t.index.listed family.Windows id 0 ≡ true → 1 ≤ t.index.many family.Windows

-- sharing is mutual, and those who share share with the same holders and count the same users
pub record Fair {H : Type 0} (t : Sharing H) : Type 0 where
  pub turned : (g k : H) → t.shares g k ≡ t.shares k g
  pub alike : (g k j : H) → t.shares g k ≡ true → t.shares g j ≡ t.shares k j
  pub even : (g k : H) → t.shares g k ≡ true → t.users g ≡ t.users k

abbrev pub PlacesCount : Table → Type 0
PlacesCount t = Fair t.index.sharing

-- both: every state that memory describes has such a table (`DescribedCounts`)
pub record Counts (t : Table) : Type 0 where
  pub windows : WindowsCount t
  pub places : PlacesCount t

-- two such orders for windows x and y, so many windows listed before the first, and the history has room for both
pub record Beside (most : ℕ) (Asked : ℕ → ℕ → Type 0) (s : State) (a b : List ℕ) (x y : ℕ) : Type 0 where
  pub first : edits x (judge_of a) ≡ true
  pub second : edits y (judge_of b) ≡ true
  pub named : Asked x y
  pub few : (present s).index.many family.Windows ≤ most
  pub orders : length s.log + 2 ≤ most_orders
  pub bytes : bytes_in s.log + length a + length b ≤ most_bytes

-- each gets the number that it gets on s, whichever comes first, and the table at the end is the same
pub record EitherWay (s : State) (a b : List ℕ) : Type 0 where
  pub first : (answer (deliver a) (next (deliver b) s)).number ≡ (answer (deliver a) s).number
  pub second : (answer (deliver b) (next (deliver a) s)).number ≡ (answer (deliver b) s).number
  pub table : present (next (deliver b) (next (deliver a) s)) ≡ present (next (deliver a) (next (deliver b) s))

unfoldable pub Claim : (Table → Type 0) → ℕ → (ℕ → ℕ → Type 0) → Type 0
Claim Held most Asked = (s : State) (a b : List ℕ) (x y : ℕ) → Held (present s) → Beside most Asked s a b x y → EitherWay s a b

abbrev pub Different : ℕ → ℕ → Type 0
Different x y = x ≡ y → ⊥

-- at most 30 windows, and different ones are named
unfoldable pub SideBySide : Type 0
SideBySide = Claim Counts 30 Different

unfoldable pub DescribedCounts : Type 0
DescribedCounts = (m : Memory) (s : State) → view_of m ≡ formed s → Counts (present s)

-- ---- on memory

-- two memories describe states with the same present table
pub record SameTable (e e' : Memory) : Type 0 where
  pub one : State
  pub other : State
  pub describes : view_of e ≡ formed one
  pub describes' : view_of e' ≡ formed other
  pub table : present one ≡ present other

-- a run of the entry point for a and then for b, and one for b and then for a, from the same memory
pub record BothWays (a b : List ℕ) (m e e' : Memory) (p q p' q' : Response) : Type 0 where
  pub n : Memory
  pub n' : Memory
  pub a_first : CallOutcome (plain (deliver a)) m p n
  pub then_b : CallOutcome (plain (deliver b)) n q e
  pub b_first : CallOutcome (plain (deliver b)) m q' n'
  pub then_a : CallOutcome (plain (deliver a)) n' p' e'

unfoldable pub OnMemory : Type 0
OnMemory =
    (m e e' : Memory) (s : State) (a b : List ℕ) (x y : ℕ) (p q p' q' : Response) → view_of m ≡ formed s → Beside 30 Different s a b x y
    → BothWays a b m e e' p q p' q'
    → (p'.reply.number ≡ p.reply.number) × (q'.reply.number ≡ q.reply.number) × SameTable e e'
