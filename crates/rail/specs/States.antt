-- The state calls and lookups at the C boundary: each reply as one number. Assumes nothing.
use Rattle.std.specs.Prelude.{ℕ, ◌+◌, ◌≡◌, List, [], ◌∷◌, get_or}
use Rattle.layout.specs.Layouts.{notification_size, desktop_size, picture_size}
use Rattle.chunk.specs.Memory.{memory_size}
use Rattle.ids.specs.Ids.{list_size}
use Rattle.store.specs.Store.{place_length}
use Rattle.table.specs.Memory.{bodies_length}
use Rattle.journal.specs.Limits.{journal_length}
use Rattle.journal.specs.View.{Memory, view_of, Past}
use Rattle.record.specs.Layout.{most_record}
use Rattle.session.specs.Calls.{answer_view, next_view}
use Rattle.session.specs.Outcome.{pixels_start, pixels_size, Request, Response, response_of}
use Rattle.session.specs.Packed.{packed_of}
use Rattle.figure.specs.Figure.{figure_length}
use Rattle.figure.specs.Kept.{kept_length}

-- the bytes of index, bodies, a place of the store and journal, of the three records with the pictures that are handed out with them,
-- of a picture, of the chunk memory, of the longest session record, of a list, and of a figure
abbrev pub sizes : List ℕ
sizes =
    kept_length ∷ bodies_length ∷ place_length ∷ journal_length ∷ (pixels_start + pixels_size)
    ∷ (notification_size + picture_size) ∷ (desktop_size + figure_length) ∷ picture_size ∷ memory_size ∷ most_record ∷ list_size ∷ figure_length ∷ []

unfoldable pub size_of : ℕ → ℕ
size_of what = get_or sizes what 0

-- what is responded to a request on a memory
abbrev pub response_on : Memory → Request → Response
response_on m q = response_of q (answer_view q.call (view_of m))

-- a call with the output memory lent to it: its packed reply, what it leaves in that memory, what the state memory then describes,
-- that a refusal leaves each of its bytes, and that the bytes past the needed lengths are as they were
pub record Exported (q : Request) (m : Memory) (r : ℕ) (out' : List ℕ) (m' : Memory) : Type 0 where
  pub says : r ≡ packed_of (response_on m q).reply
  pub gives : out' ≡ (response_on m q).out
  pub holds : view_of m' ≡ next_view q.call (view_of m)
  pub kept : ((response_on m q).reply.number ≡ 0 → ⊥) → m' ≡ m
  pub past : Past m m'
