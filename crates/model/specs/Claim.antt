-- DEMAND 3: one claim over every list of calls from an emptied state, each lent the memory as the call before left it. Assumes
-- nothing.
use Rattle.std.specs.Prelude.{ℕ, ◌≡◌, false, List, [], ◌∷◌, map, length, drop}
use Rattle.figure.specs.Kept.{kept_length}
use Rattle.store.specs.Store.{places_in}
use Rattle.store.specs.Kept.{past_places}
use Rattle.table.specs.Memory.{bodies_length, fixed_by}
use Rattle.journal.specs.Limits.{journal_length}
use Rattle.journal.specs.State.{State, present}
use Rattle.journal.specs.View.{Memory, too_short, formed, view_of}
use Rattle.session.specs.Calls.{reset}
use Rattle.session.specs.Outcome.{Request, plain, Response, CallOutcome}
use Rattle.update.specs.declared.Report.{Report}
use Rattle.update.specs.Outcome.{UpdateOutcome}
use Rattle.model.specs.Book.{Book, new_book, table_of, book_after}
use Rattle.model.specs.Updates.{Step, single, update, Said, responds, reports, replaced, book_said}

-- a run of calls: each meets its entry point's statement, a single one on the output memory lent to it
pub data Calls : Memory → List Step → List Said → Memory → Type 0 where
  none : {m : Memory} → Calls m [] [] m
  more : {m n e : Memory} {q : Request} {r : Response} {xs : List Step} {ys : List Said} → CallOutcome q m r n → Calls n xs ys e → Calls m (single q ∷ xs) (responds r ∷ ys) e
  more_at_once : {m n e : Memory} {limit : ℕ} {s : List ℕ} {r : Report} {xs : List Step} {ys : List Said} → UpdateOutcome limit s m r n → Calls n xs ys e
      → Calls m (update limit s ∷ xs) (reports r ∷ ys) e

-- over a list of calls: the bytes past the needed lengths, the lengths of the store's parts and what lies past their whole places are
-- as they were
pub record PastCalls (m m' : Memory) : Type 0 where
  pub index : drop kept_length m'.index ≡ drop kept_length m.index
  pub bodies : drop bodies_length m'.bodies ≡ drop bodies_length m.bodies
  pub lengths : map length m'.store ≡ map length m.store
  pub store : past_places m'.store ≡ past_places m.store
  pub journal : drop journal_length m'.journal ≡ drop journal_length m.journal

-- memory describes the book's table and its orders after the mark
pub record DescribesBook (e : Memory) (b : Book) : Type 0 where
  pub state : State
  pub describes : view_of e ≡ formed state
  pub table : present state ≡ table_of b
  pub since : state.log ≡ b.new

-- what is said is that of a book with so many places, and the memory at the end describes the book after the list with each update replaced by its
-- deliveries
pub record AsBook (places : ℕ) (xs : List Step) (ys : List Said) (e : Memory) : Type 0 where
  pub answers : ys ≡ book_said xs (new_book places)
  pub holds : DescribesBook e (book_after (replaced xs (new_book places)) (new_book places))

-- memory of the measure is emptied, which fixes the number of places, and then any list of calls follows, refused ones among them
unfoldable pub Demand3 : Type 0
Demand3 =
    (m n e : Memory) (r : Response) (xs : List Step) (ys : List Said) → too_short m ≡ false → CallOutcome (plain (reset (places_in m.store))) m r n
    → Calls n xs ys e
    → AsBook (fixed_by (places_in m.store)) xs ys e
