-- The state that a book describes: each call answers on it as the book does, and moves it as the book moves. Assumes nothing.
use Prim.Native.Nat.{ℕ, ◌+◌}
use mathlib.Core.Path.{◌≡◌, refl, sym, ap, ap₂, ◌∙◌}
use mathlib.Core.Bool.{Bool, true, false, not}
use mathlib.Core.List.{List, [], ◌∷◌, ◌++◌}
use mathlib.Core.Option.{Option, none, some}
use lib.Dec.{eqb, leb, ltb}
use lib.ListN.{length}
use borrow.Author.Tests.{leb-true, leb-false, lt-ltb, le-ltb}
use Rattle.wire.specs.Tests.{pick, both, either}
use Rattle.places.specs.declared.Family.{Family}
use Rattle.places.specs.declared.Family.TheVariants as family
use Rattle.places.specs.Holder.{Holder, cell}
use Rattle.ids.specs.Ids.{ids_in}
use Rattle.table.specs.Table.{Table, emptied, number, after}
use Rattle.table.specs.Memory.{fixed_by}
use Rattle.journal.specs.Limits.{most_orders, most_bytes}
use Rattle.journal.specs.State.{State, run, present, bytes_in}
use Rattle.present.specs.TableFigure.{figure_in}
use Rattle.session.specs.declared.LookupTarget.{LookupTarget}
use Rattle.session.specs.declared.LookupTarget.TheVariants.{Window, Notification, Cell, Desktop, Windows, Notifications, Shares}
use Rattle.session.specs.Calls.{Call, reset, deliver, checkpoint, undo, look, write_record, Payload, nothing, listed, desktop, picture, ids, orders, shared, Answer, refuse, grant, over_full, without, a_picture, cell_number, holder_of, icons_shown, shared_in, record_in, payload_in, found, answer, next}
use Rattle.model.specs.Book.{Book, new_book, makes, table_of, bytes_of, has_room, joined, mark_moved, last_gone, says, refuses, gives_record, gives_shared, gives_picture, book_next, book_answer}
use Rattle.journal.proofs.Runs.{run_append}

-- ---- the book's words and the state's

makes_run : (t : Table) (os : List (List ℕ)) → makes t os ≡ run t os
unfolding makes run
makes_run t [] = refl
makes_run t (o ∷ os) = makes_run (after t o) os

pub bytes_same : (os : List (List ℕ)) → bytes_in os ≡ bytes_of os
unfolding bytes_in bytes_of
bytes_same [] = refl
bytes_same (o ∷ os) = ap (λ (n : ℕ). length o + n) (bytes_same os)

-- ---- the tests, written the other way round

turned : {A : Type 0} (t : Bool) (x y : A) → pick (not t) x y ≡ pick t y x
turned true x y = refl
turned false x y = refl

ltb_not : (a b : ℕ) → ltb a b ≡ not (leb b a)
ltb_not a b = go (leb b a) refl
  where
    go : (t : Bool) → leb b a ≡ t → ltb a b ≡ not t
    go true e = le-ltb a b (leb-true b a e)
    go false e = lt-ltb a b (leb-false b a e)

either_not : (s t : Bool) → either (not s) (not t) ≡ not (both s t)
either_not true t = refl
either_not false t = refl

-- ---- a book as a state

abbrev pub state_of_book : Book → State
state_of_book b = record { marked = run (emptied b.places) b.old; log = b.new }

module _ (b : Book) where
  pub present_book : present (state_of_book b) ≡ table_of b
  unfolding table_of
  present_book = sym (makes_run (emptied b.places) (b.old ++ b.new) ∙ run_append (emptied b.places) b.old b.new)

  full_room : (o : List ℕ) → over_full b.new o ≡ not (has_room b o)
  full_room o =
      rw (bytes_same b.new, ltb_not most_orders (length b.new + 1), ltb_not most_bytes (bytes_of b.new + length o))
      (either_not (leb (length b.new + 1) most_orders) (leb (bytes_of b.new + length o) most_bytes))

  grants : (p : Payload) → grant b.new p ≡ says 0 b p
  grants p = ap (λ (n : ℕ). record { number = 0; count = length b.new; bytes = n; payload = p }) (bytes_same b.new)

  -- ---- lookups

  picture_same : (x : Option (List ℕ)) → found b.new (a_picture x) ≡ gives_picture b x
  picture_same none = refl
  picture_same (some p) = grants (picture p)

  record_same : (f : Family) (x y : ℕ) → found b.new (record_in (table_of b) f x y) ≡ gives_record b f x y
  record_same f x y = go ((table_of b).index.listed f x y)
    where
      go : (t : Bool) → found b.new (pick t (listed f ((table_of b).fields f x y) (icons_shown (table_of b) f x y)) nothing)
          ≡ pick t (says 0 b (listed f ((table_of b).fields f x y) (icons_shown (table_of b) f x y))) (refuses 9)
      go true = grants (listed f ((table_of b).fields f x y) (icons_shown (table_of b) f x y))
      go false = refl

  shared_same : (g k : Holder) → found b.new (shared_in (table_of b) g k) ≡ gives_shared b g k
  shared_same g k = go (both ((table_of b).index.sharing.shares g g) ((table_of b).index.sharing.shares k k)) ((table_of b).index.sharing.shares g k)
    where
      go : (t u : Bool) → found b.new (pick t (shared u) nothing) ≡ pick t (says 0 b (shared u)) (refuses 9)
      go true u = grants (shared u)
      go false u = refl

  look_says : (target : LookupTarget) → found b.new (payload_in target (table_of b)) ≡ book_answer (look target) b
  unfolding payload_in book_answer
  look_says (Window w) = record_same family.Windows w.id 0
  look_says (Notification w n) = record_same family.Notifications w.id n.id
  look_says (Cell cache entry) = picture_same ((table_of b).shown (cell (cell_number cache entry)))
  look_says Desktop = grants (desktop (table_of b).desktop (figure_in (table_of b)))
  look_says Windows = grants (ids family.Windows (ids_in (table_of b).index family.Windows))
  look_says Notifications = grants (ids family.Notifications (ids_in (table_of b).index family.Notifications))
  look_says (Shares g k) = shared_same (holder_of g) (holder_of k)

-- ---- each call's answer

room_says : (b : Book) (o : List ℕ) → pick (over_full b.new o) (refuse 12) (grant (b.new ++ (o ∷ [])) nothing) ≡ pick (has_room b o) (says 0 (joined b o) nothing) (refuses 12)
room_says b o =
    ap₂ (λ (t : Bool) (a : Answer). pick t (refuse 12) a) (full_room b o) (grants (joined b o) nothing)
    ∙ turned (has_room b o) (refuse 12) (says 0 (joined b o) nothing)

deliver_says : (b : Book) (o : List ℕ) (n : ℕ) → pick (not (eqb n 0)) (refuse n) (pick (over_full b.new o) (refuse 12) (grant (b.new ++ (o ∷ [])) nothing)) ≡ pick (eqb n 0) (pick (has_room b o) (says 0 (joined b o) nothing) (refuses 12)) (refuses n)
deliver_says b o n =
    ap (λ (a : Answer). pick (not (eqb n 0)) (refuse n) a) (room_says b o)
    ∙ turned (eqb n 0) (refuse n) (pick (has_room b o) (says 0 (joined b o) nothing) (refuses 12))

undo_says : (b : Book) (k : ℕ) → pick (ltb (length b.new) k) (refuse 13) (grant (without k b.new) nothing) ≡ pick (leb k (length b.new)) (says 0 (last_gone k b) nothing) (refuses 13)
undo_says b k =
    ap₂ (λ (t : Bool) (a : Answer). pick t (refuse 13) a) (ltb_not (length b.new) k) (grants (last_gone k b) nothing)
    ∙ turned (leb k (length b.new)) (refuse 13) (says 0 (last_gone k b) nothing)

pub answer_book : (c : Call) (b : Book) → answer c (state_of_book b) ≡ book_answer c b
unfolding answer book_answer
answer_book (reset n) b = grants (new_book (fixed_by n)) nothing
answer_book (deliver o) b = rw (present_book b) (deliver_says b o (number (table_of b) o))
answer_book checkpoint b = grants (mark_moved b) nothing
answer_book (undo k) b = undo_says b k
answer_book (look target) b = ap (λ (t : Table). found b.new (payload_in target t)) (present_book b) ∙ look_says b target
answer_book write_record b = grants b (orders b.new)

-- ---- and what it leaves

-- a test that picks a book picks its state
picks : (t : Bool) (x y : Book) → pick t (state_of_book x) (state_of_book y) ≡ state_of_book (pick t x y)
picks true x y = refl
picks false x y = refl

deliver_moves : (b : Book) (o : List ℕ) (t : Bool) → pick (either (not t) (over_full b.new o)) (state_of_book b) (state_of_book (joined b o)) ≡ state_of_book (pick (both t (has_room b o)) (joined b o) b)
deliver_moves b o t =
    ap (λ (u : Bool). pick (either (not t) u) (state_of_book b) (state_of_book (joined b o))) (full_room b o)
    ∙ ap (λ (u : Bool). pick u (state_of_book b) (state_of_book (joined b o))) (either_not t (has_room b o))
    ∙ turned (both t (has_room b o)) (state_of_book b) (state_of_book (joined b o))
    ∙ picks (both t (has_room b o)) (joined b o) b

undo_moves : (b : Book) (k : ℕ) → pick (ltb (length b.new) k) (state_of_book b) (state_of_book (last_gone k b)) ≡ state_of_book (pick (leb k (length b.new)) (last_gone k b) b)
undo_moves b k =
    ap (λ (u : Bool). pick u (state_of_book b) (state_of_book (last_gone k b))) (ltb_not (length b.new) k)
    ∙ turned (leb k (length b.new)) (state_of_book b) (state_of_book (last_gone k b))
    ∙ picks (leb k (length b.new)) (last_gone k b) b

pub next_book : (c : Call) (b : Book) → next c (state_of_book b) ≡ state_of_book (book_next c b)
unfolding next book_next run
next_book (reset n) b = refl
next_book (deliver o) b = rw (present_book b) (deliver_moves b o (eqb (number (table_of b) o) 0))
next_book checkpoint b =
    ap {B = State} (λ (t : Table). record { marked = t; log = [] }) (sym (run_append (emptied b.places) b.old b.new))
next_book (undo k) b = undo_moves b k
next_book (look target) b = refl
next_book write_record b = refl
