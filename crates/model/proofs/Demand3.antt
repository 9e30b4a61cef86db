-- Demand 3. Assumes nothing.
use Prim.Native.Nat.{ℕ}
use mathlib.Core.Path.{◌≡◌, refl, sym, ap, ap₂, ◌∙◌}
use mathlib.Core.Bool.{Bool, true, false}
use mathlib.Core.List.{List, [], ◌∷◌, ◌++◌}
use Rattle.wire.specs.Tests.{pick}
use Rattle.store.specs.Store.{places_in}
use Rattle.table.specs.Memory.{fixed_by}
use Rattle.journal.specs.State.{State, run}
use Rattle.journal.specs.View.{Memory, Past, too_short, well_formed, state_of, unformed, formed, view_of}
use Rattle.session.specs.Calls.{Call, reset, answer, next, answer_view, next_view}
use Rattle.session.specs.Outcome.{Request, Response, response_of, CallOutcome}
use Rattle.update.specs.declared.Report.{Report}
use Rattle.update.specs.Outcome.{report_on, next_on, UpdateOutcome}
use Rattle.model.specs.Book.{Book, new_book, book_next, book_after}
use Rattle.model.specs.Updates.{Step, single, update, Said, responds, reports, calls_of, replaced, book_says, book_said}
use Rattle.model.specs.Claim.{Calls, none, more, more_at_once, PastCalls, AsBook, Demand3}
use Rattle.model.specs.Wellformed.{emptied_state}
use Rattle.model.proofs.BookState.{state_of_book, present_book, answer_book, next_book}
use Rattle.model.proofs.BookUpdates.{report_book, next_update}

-- ---- on memory that describes a state

answered : (c : Call) (s : State) → answer_view c (formed s) ≡ answer c s
unfolding answer_view
answered c s = refl

pub moved : (c : Call) (s : State) → next_view c (formed s) ≡ formed (next c s)
unfolding next_view
moved c s = refl

-- memory that is long enough describes the emptied state once it is emptied
pub emptied_view : (k : ℕ) (m : Memory) → too_short m ≡ false → next_view (reset k) (view_of m) ≡ formed (emptied_state k)
unfolding view_of next_view next
emptied_view k m l = rw l (go (well_formed m))
  where
    go : (t : Bool) → next_view (reset k) (pick t (formed (state_of m)) unformed) ≡ formed (emptied_state k)
    go true = refl
    go false = refl

-- ---- over a list of calls

book_after_append : (cs ds : List Call) (b : Book) → book_after (cs ++ ds) b ≡ book_after ds (book_after cs b)
unfolding book_after
book_after_append [] ds b = refl
book_after_append (c ∷ cs) ds b = book_after_append cs ds (book_next c b)

-- what is said is the book's from b on, and the memory at the end describes the book
pub record Follows (xs : List Step) (b : Book) (ys : List Said) (e : Memory) : Type 0 where
  pub answers : ys ≡ book_said xs b
  pub holds : view_of e ≡ formed (state_of_book (book_after (replaced xs b) b))

one_more_lem : {x : Step} {xs : List Step} {b : Book} {y : Said} {ys : List Said} {e : Memory} → y ≡ book_says x b → Follows xs (book_after (calls_of x b) b) ys e
    → Follows (x ∷ xs) b (y ∷ ys) e
unfolding book_said replaced
one_more_lem {x = x} {xs = xs} {b = b} e f =
    record {
      answers = ap₂ ◌∷◌ e f.answers;
      holds = f.holds ∙ ap (λ (b : Book). formed (state_of_book b)) (sym (book_after_append (calls_of x b) (replaced xs (book_after (calls_of x b) b)) b));
    }

-- a single call
module _ {m n : Memory} {q : Request} {r : Response} (b : Book) (v : view_of m ≡ formed (state_of_book b)) (s : CallOutcome q m r n) where
  single_says : responds r ≡ book_says (single q) b
  unfolding book_says
  single_says = ap responds (s.says ∙ ap (response_of q) (ap (answer_view q.call) v ∙ answered q.call (state_of_book b) ∙ answer_book q.call b))

  single_holds : view_of n ≡ formed (state_of_book (book_after (calls_of (single q) b) b))
  unfolding calls_of book_after
  single_holds = s.holds ∙ ap (next_view q.call) v ∙ moved q.call (state_of_book b) ∙ ap formed (next_book q.call b)

-- a whole update
module _ {m n : Memory} {limit : ℕ} {s : List ℕ} {r : Report} (b : Book) (v : view_of m ≡ formed (state_of_book b)) (u : UpdateOutcome limit s m r n) where
  update_says : reports r ≡ book_says (update limit s) b
  unfolding book_says
  update_says = ap reports (u.says ∙ ap (report_on limit s) v ∙ report_book limit s b)

  update_holds : view_of n ≡ formed (state_of_book (book_after (calls_of (update limit s) b) b))
  unfolding calls_of
  update_holds = u.holds ∙ ap (next_on limit s) v ∙ next_update limit s b

pub from : {m e : Memory} {xs : List Step} {ys : List Said} (b : Book) → view_of m ≡ formed (state_of_book b) → Calls m xs ys e → Follows xs b ys e
unfolding book_said replaced book_after
from b v none = record { answers = refl; holds = v }
from b v (more {q = q} s k) = one_more_lem (single_says b v s) (from (book_after (calls_of (single q) b) b) (single_holds b v s) k)
from b v (more_at_once {limit = limit} {s = s} u k) = one_more_lem (update_says b v u) (from (book_after (calls_of (update limit s) b) b) (update_holds b v u) k)

-- from memory that describes the emptied state, which is the new book's
pub as_book : {m e : Memory} {xs : List Step} {ys : List Said} (lent : ℕ) → view_of m ≡ formed (emptied_state lent) → Calls m xs ys e → AsBook (fixed_by lent) xs ys e
unfolding run
as_book {xs = xs} lent v k =
    let new = new_book (fixed_by lent) in
    let f = from new v k in
    let b = book_after (replaced xs new) new in
    record { answers = f.answers; holds = record { state = state_of_book b; describes = f.holds; table = present_book b; since = refl } }

pub demand_3 : Demand3
unfolding Demand3
demand_3 m n e r xs ys l s k = as_book (places_in m.store) (s.holds ∙ emptied_view (places_in m.store) m l) k

-- ---- one call more at the end of a run of calls

pub snoc : {m n e : Memory} {x : Step} {y : Said} {xs : List Step} {ys : List Said} → Calls m xs ys n → Calls n (x ∷ []) (y ∷ []) e → Calls m (xs ++ (x ∷ [])) (ys ++ (y ∷ [])) e
snoc none o = o
snoc (more s k) o = more s (snoc k o)
snoc (more_at_once u k) o = more_at_once u (snoc k o)

-- ---- the bytes past the needed lengths

pub past_same : (m : Memory) → PastCalls m m
past_same m = record { index = refl; bodies = refl; lengths = refl; store = refl; journal = refl }

-- a call, and those after it
pub past_then : {m n e : Memory} → Past m n → PastCalls n e → PastCalls m e
past_then a b =
    record {
      index = b.index ∙ a.index;
      bodies = b.bodies ∙ a.bodies;
      lengths = b.lengths ∙ a.store.lengths;
      store = b.store ∙ a.store.past;
      journal = b.journal ∙ a.journal;
    }

pub calls_past : {m e : Memory} {xs : List Step} {ys : List Said} → Calls m xs ys e → PastCalls m e
calls_past {m = m} none = past_same m
calls_past (more s k) = past_then s.past (calls_past k)
calls_past (more_at_once u k) = past_then u.past (calls_past k)
