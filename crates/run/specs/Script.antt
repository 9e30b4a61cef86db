-- DEMAND 3 on running code: a list of calls as bytes, the answers as bytes, and what running the one gives of the other. Assumes
-- nothing.
use Rattle.std.specs.Prelude.{ℕ, zero, suc, ◌+◌, ◌*◌, ◌-◌, ◌/◌, ◌%◌, ◌<◌, ◌≡◌, true, false, eqb, ltb, length, drop, replicate}
use mathlib.Core.List.{List, [], ◌∷◌, ◌++◌, map, flatten}
use Rattle.std.proofs.Math.Option.{Option, none, some}
use Rattle.wire.specs.Tests.{pick}
use Rattle.wire.specs.Parts.{slice, splice}
use Rattle.wire.specs.Numbers.{num_at, bytes_of}
use Rattle.store.specs.Store.{places_in}
use Rattle.table.specs.Memory.{fixed_by}
use Rattle.journal.specs.View.{Memory, too_short}
use Rattle.session.specs.declared.PictureHolder.{PictureHolder}
use Rattle.session.specs.declared.LookupTarget.{LookupTarget}
use Rattle.session.specs.declared.LookupTarget.TheVariants.{Window, Notification, Cell, Desktop, Windows, Notifications, Shares}
use Rattle.session.specs.Calls.{Call, reset, deliver, checkpoint, undo, look, write_record}
use Rattle.session.specs.Holders.{holder_from}
use Rattle.session.specs.Outcome.{Request, needed_for}
use Rattle.session.specs.Packed.{packed_of}
use Rattle.update.specs.Packed.{standing_half, granted_half}
use Rattle.model.specs.Book.{new_book, book_after}
use Rattle.model.specs.Updates.{Step, single, update, Said, responds, reports, replaced, book_said}
use Rattle.model.specs.Claim.{DescribesBook, PastCalls}

-- ---- a script: items, each its kind (1 byte), the size of what it carries (2) and so many bytes; what is missing of a call's
-- numbers counts 0

-- a holder, 9 bytes: its kind (1 a window's small icon, 2 its big one, 3 a notification icon, any other a cell), and two numbers of 4
unfoldable pub holder_at : List ℕ → ℕ → PictureHolder
holder_at arg at = holder_from (num_at 1 arg at) (num_at 4 arg (at + 1)) (num_at 4 arg (at + 5))

abbrev pub holder_size : ℕ
holder_size = 9

-- 4: a window; 5: a notification icon; 6: a cell, by cache and entry; 7: the desktop; 10: the list of windows; 11: that of
-- notification icons; 12: whether two holders share a place
unfoldable pub target_of : ℕ → List ℕ → LookupTarget
target_of kind arg =
    pick (eqb kind 4) (Window (record { id = num_at 4 arg 0 }))
    (pick (eqb kind 5) (Notification (record { id = num_at 4 arg 0 }) (record { id = num_at 4 arg 4 }))
    (pick (eqb kind 6) (Cell (num_at 1 arg 0) (num_at 2 arg 1))
    (pick (eqb kind 10) Windows
    (pick (eqb kind 11) Notifications
    (pick (eqb kind 12) (Shares (holder_at arg 0) (holder_at arg holder_size)) Desktop)))))

-- 0: an emptying, with so many places lent; 1: a delivery; 2: a mark; 3: a step back
unfoldable pub change_of : ℕ → ℕ → List ℕ → Call
change_of lent kind arg =
    pick (eqb kind 0) (reset lent)
    (pick (eqb kind 1) (deliver arg)
    (pick (eqb kind 2) checkpoint (undo (num_at 8 arg 0))))

-- 9: the session record is written
abbrev pub record_kind : ℕ
record_kind = 9

unfoldable pub call_of : ℕ → ℕ → List ℕ → Call
call_of lent kind arg = pick (ltb kind 4) (change_of lent kind arg) (pick (eqb kind record_kind) write_record (look (target_of kind arg)))

-- a call that hands something out is lent zeros, which are left where it is refused
abbrev pub request_of : Call → Request
request_of c = record { call = c; out = replicate (needed_for c) 0 }

abbrev pub one_call : Call → Step
one_call c = single (request_of c)

-- 8: a whole update, its limit of 4 bytes before its own
abbrev pub limit_size : ℕ
limit_size = 4

unfoldable pub step_of : ℕ → ℕ → List ℕ → Step
step_of lent kind arg = pick (eqb kind 8) (update (num_at 4 arg 0) (drop limit_size arg)) (one_call (call_of lent kind arg))

abbrev pub last_kind : ℕ
last_kind = 12

-- the first item of a script: its kind, its bytes in all, and its call
abbrev pub kind_of : List ℕ → ℕ
kind_of s = num_at 1 s 0

abbrev pub item_length : List ℕ → ℕ
item_length s = 3 + num_at 2 s 1

unfoldable pub first_call : ℕ → List ℕ → Step
first_call lent s = step_of lent (kind_of s) (slice s 3 (num_at 2 s 1))

-- ---- the answers: a block for each call, of fixed size

-- the packed reply (4 bytes), then what is handed out, with zeros behind a record; of a report what stands (4) and what was granted (4)
abbrev pub block_of : Said → List ℕ
block_of (responds r) = bytes_of 4 (packed_of r.reply) ++ r.out
block_of (reports r) = bytes_of 4 (standing_half r) ++ bytes_of 4 (granted_half r)

abbrev pub block_length : Step → ℕ
block_length (single q) = 4 + needed_for q.call
block_length (update limit s) = 8

-- the book's
abbrev pub blocks_of : ℕ → List Step → List (List ℕ)
blocks_of places calls = map block_of (book_said calls (new_book places))

-- ---- a run

-- the number with which it ends before the first item of s, given the room that is left for blocks: 0 at the end of the script, 2
-- for fewer than 3 bytes, 3 for an item that is cut, 4 for an unknown kind, 14 for too little room; none where its call is done
unfoldable pub ends_with : ℕ → List ℕ → ℕ → Option ℕ
ends_with lent s room =
    pick (eqb (length s) 0) (some 0)
    (pick (ltb (length s) 3) (some 2)
    (pick (ltb (length s) (item_length s)) (some 3)
    (pick (ltb last_kind (kind_of s)) (some 4)
    (pick (ltb room (block_length (first_call lent s))) (some 14) none))))

-- the calls that are done, and the number with which the run ends
pub record Course : Type 0 where
  pub calls : List Step
  pub number : ℕ

abbrev pub ends_here : ℕ → Course
ends_here n = record { calls = []; number = n }

abbrev pub call_first : Step → Course → Course
call_first c p = record { calls = c ∷ p.calls; number = p.number }

abbrev pub unless_ends : Option ℕ → Course → Course
unless_ends none p = p
unless_ends (some n) p = ends_here n

-- at most f calls; a script has fewer calls than bytes
unfoldable pub course_from : ℕ → ℕ → List ℕ → ℕ → Course
course_from lent zero s room = ends_here 0
course_from lent (suc f) s room =
    unless_ends (ends_with lent s room)
    (call_first (first_call lent s) (course_from lent f (drop (item_length s) s) (room - block_length (first_call lent s))))

-- so many places are lent
unfoldable pub course_of : ℕ → List ℕ → ℕ → Course
course_of lent s room = course_from lent (length s) s room

-- the answer as one number: the number, and 256 times the calls done (modulo 2^56)
abbrev pub packed_run : Course → ℕ
packed_run p = p.number + 256 * (length p.calls % 0x100000000000000)

-- so a caller takes it apart again
pub record RunUnpacked (p : Course) : Type 0 where
  pub number : packed_run p % 256 ≡ p.number
  pub calls : packed_run p / 256 ≡ length p.calls

unfoldable pub RunUnpacks : Type 0
RunUnpacks = (p : Course) → p.number < 256 → length p.calls < 0x100000000000000 → RunUnpacked p

-- its calls are done: the output begins with the blocks of the book's answers, each of its call's size, the memory describes the
-- book, and the bytes past the needed lengths are as they were
pub record RunAs (places : ℕ) (p : Course) (m : Memory) (out : List ℕ) (r : ℕ) (e : Memory) (out' : List ℕ) : Type 0 where
  pub says : r ≡ packed_run p
  pub answers : out' ≡ splice out 0 (flatten (blocks_of places p.calls))
  pub sizes : map length (blocks_of places p.calls) ≡ map block_length p.calls
  pub holds : DescribesBook e (book_after (replaced p.calls (new_book places)) (new_book places))
  pub past : PastCalls m e

-- a run of the script s on the memory m, which is emptied first; where that is refused nothing changes
pub record Runs (s : List ℕ) (m : Memory) (out : List ℕ) (r : ℕ) (e : Memory) (out' : List ℕ) : Type 0 where
  pub refused : too_short m ≡ true → (r ≡ 1) × (e ≡ m) × (out' ≡ out)
  pub ran : too_short m ≡ false → RunAs (fixed_by (places_in m.store)) (course_of (places_in m.store) s (length out)) m out r e out'
