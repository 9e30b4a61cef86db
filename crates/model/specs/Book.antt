-- Document 01's plain book. It sees each call's kind and what it carries, never the state memory or a program's answers.
-- Assumes nothing.
use Rattle.std.specs.Prelude.{ℕ, ◌+◌, ◌-◌, Bool, List, [], ◌∷◌, ◌++◌, eqb, leb, length, take}
use Rattle.std.proofs.Math.Option.{Option, none, some}
use Rattle.wire.specs.Tests.{pick, both}
use Rattle.places.specs.declared.Family.{Family}
use Rattle.places.specs.declared.Family.TheVariants as family
use Rattle.places.specs.Holder.{Holder, cell}
use Rattle.ids.specs.Ids.{ids_in}
use Rattle.table.specs.Table.{Table, emptied, number, after}
use Rattle.table.specs.Memory.{fixed_by}
use Rattle.journal.specs.Limits.{most_orders, most_bytes}
use Rattle.present.specs.TableFigure.{figure_in}
use Rattle.session.specs.declared.LookupTarget.TheVariants.{Window, Notification, Cell, Desktop, Windows, Notifications, Shares}
use Rattle.session.specs.Calls.{Call, reset, deliver, checkpoint, undo, look, write_record, Payload, nothing, listed, desktop, picture, ids, orders, shared, Answer, cell_number, holder_of, icons_shown}

-- how many places emptying fixed, and a list of standing orders with a mark in it: those up to the mark, and those after it
pub record Book : Type 0 where
  pub places : ℕ
  pub old : List (List ℕ)
  pub new : List (List ℕ)

-- at first empty, with so many places
abbrev pub new_book : ℕ → Book
new_book n = record { places = n; old = []; new = [] }

-- what orders make, in turn, of a table
unfoldable pub makes : Table → List (List ℕ) → Table
makes t [] = t
makes t (o ∷ os) = makes (after t o) os

unfoldable pub table_of : Book → Table
table_of b = makes (emptied b.places) (b.old ++ b.new)

unfoldable pub bytes_of : List (List ℕ) → ℕ
bytes_of [] = 0
bytes_of (o ∷ os) = length o + bytes_of os

-- with o the orders after the mark do not pass the history room
abbrev pub has_room : Book → List ℕ → Bool
has_room b o = both (leb (length b.new + 1) most_orders) (leb (bytes_of b.new + length o) most_bytes)

-- the order joins the end; the mark moves to the end; the last k go
abbrev pub joined : Book → List ℕ → Book
joined b o = record { places = b.places; old = b.old; new = b.new ++ (o ∷ []) }

abbrev pub mark_moved : Book → Book
mark_moved b = record { places = b.places; old = b.old ++ b.new; new = [] }

abbrev pub last_gone : ℕ → Book → Book
last_gone k b = record { places = b.places; old = b.old; new = take (length b.new - k) b.new }

-- a refused call changes nothing
unfoldable pub book_next : Call → Book → Book
book_next (reset n) b = new_book (fixed_by n)
book_next (deliver o) b = pick (both (eqb (number (table_of b) o) 0) (has_room b o)) (joined b o) b
book_next checkpoint b = mark_moved b
book_next (undo k) b = pick (leb k (length b.new)) (last_gone k b) b
book_next (look target) b = b
book_next write_record b = b

-- the count and the bytes are those of the orders after the mark once the call is done
abbrev pub says : ℕ → Book → Payload → Answer
says n b payload = record { number = n; count = length b.new; bytes = bytes_of b.new; payload = payload }

abbrev pub refuses : ℕ → Answer
refuses n = record { number = n; count = 0; bytes = 0; payload = nothing }

-- a record's fields and what its icons show
abbrev pub gives_record : Book → Family → ℕ → ℕ → Answer
gives_record b f x y =
    pick ((table_of b).index.listed f x y) (says 0 b (listed f ((table_of b).fields f x y) (icons_shown (table_of b) f x y))) (refuses 9)

-- whether two holders share a place, where both point at one
abbrev pub gives_shared : Book → Holder → Holder → Answer
gives_shared b g k =
    pick (both ((table_of b).index.sharing.shares g g) ((table_of b).index.sharing.shares k k))
    (says 0 b (shared ((table_of b).index.sharing.shares g k))) (refuses 9)

abbrev pub gives_picture : Book → Option (List ℕ) → Answer
gives_picture b none = refuses 9
gives_picture b (some p) = says 0 b (picture p)

unfoldable pub book_answer : Call → Book → Answer
book_answer (reset n) b = says 0 (new_book (fixed_by n)) nothing
book_answer (deliver o) b =
    pick (eqb (number (table_of b) o) 0) (pick (has_room b o) (says 0 (joined b o) nothing) (refuses 12)) (refuses (number (table_of b) o))
book_answer checkpoint b = says 0 (mark_moved b) nothing
book_answer (undo k) b = pick (leb k (length b.new)) (says 0 (last_gone k b) nothing) (refuses 13)
book_answer (look (Window w)) b = gives_record b family.Windows w.id 0
book_answer (look (Notification w n)) b = gives_record b family.Notifications w.id n.id
book_answer (look (Cell cache entry)) b = gives_picture b ((table_of b).shown (cell (cell_number cache entry)))
book_answer (look Desktop) b = says 0 b (desktop (table_of b).desktop (figure_in (table_of b)))
book_answer (look Windows) b = says 0 b (ids family.Windows (ids_in (table_of b).index family.Windows))
book_answer (look Notifications) b = says 0 b (ids family.Notifications (ids_in (table_of b).index family.Notifications))
book_answer (look (Shares g k)) b = gives_shared b (holder_of g) (holder_of k)
book_answer write_record b = says 0 b (orders b.new)

-- over a list of calls
unfoldable pub book_after : List Call → Book → Book
book_after [] b = b
book_after (c ∷ cs) b = book_after cs (book_next c b)

unfoldable pub book_answers : List Call → Book → List Answer
book_answers [] b = []
book_answers (c ∷ cs) b = book_answer c b ∷ book_answers cs (book_next c b)
