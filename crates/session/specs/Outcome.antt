-- What every entry point states: a call with the output memory lent to it, its reply, and both memories after it. Assumes nothing.
use Rattle.std.specs.Prelude.{ℕ, ◌+◌, ◌≡◌, eqb, ltb, length, take, drop}
use mathlib.Core.List.{List, [], ◌∷◌, ◌++◌, map, flatten}
use Rattle.std.proofs.Math.Option.{Option}
use Rattle.wire.specs.Tests.{pick, both}
use Rattle.wire.specs.Numbers.{bytes_of}
use Rattle.wire.specs.Parts.{splice}
use Rattle.ids.specs.Ids.{list_size, list_bytes}
use Rattle.body.specs.Bodies.{notification_fields, desktop_fields}
use Rattle.places.specs.declared.Family.{Family}
use Rattle.places.specs.declared.Family.TheVariants as family
use Rattle.layout.specs.Layouts.{newer_start, newer_size, notification_size, desktop_size, picture_size, older_fields, newer_fields, older_of, newer_of, record_bytes, picture_bytes}
use Rattle.shown.specs.Shown.{is_there, shown_bytes}
use Rattle.figure.specs.Figure.{pixels_of, figure_length, figure_bytes}
use Rattle.journal.specs.View.{Memory, Past, view_of}
use Rattle.record.specs.Layout.{record_of, most_record}
use Rattle.present.specs.TableFigure.{unmarked}
use Rattle.session.specs.declared.Reply.{Reply}
use Rattle.session.specs.declared.LookupTarget.{LookupTarget}
use Rattle.session.specs.declared.LookupTarget.TheVariants.{Window, Notification, Cell, Desktop, Windows, Notifications, Shares}
use Rattle.session.specs.Calls.{Call, reset, deliver, checkpoint, undo, look, write_record, Payload, nothing, listed, desktop, picture, ids, orders, shared, Answer, refuse, answer_view, next_view}

-- a call and the output memory lent with it: none for a call that hands nothing out
pub record Request : Type 0 where
  pub call : Call
  pub out : List ℕ

abbrev pub plain : Call → Request
plain c = record { call = c; out = [] }

abbrev pub lookup : LookupTarget → List ℕ → Request
lookup target out = record { call = look target; out = out }

abbrev pub record_to : List ℕ → Request
record_to out = record { call = write_record; out = out }

-- its reply, and what it leaves in that memory
pub record Response : Type 0 where
  pub reply : Reply
  pub out : List ℕ

abbrev pub replied : Reply → Response
replied r = record { reply = r; out = [] }

abbrev pub handed : Reply → List ℕ → Response
handed r out = record { reply = r; out = out }

-- ---- the fixed layout of what is handed out

-- where the pixels of a window stand, and the bytes that they take
abbrev pub pixels_start : ℕ
pixels_start = newer_start + (newer_size + picture_size)

abbrev pub pixels_size : ℕ
pixels_size = 4

-- the bytes that a target takes: a record's fields, and a picture for each of its icons; a window's newer fields stand before its
-- last picture and its pixels after that, the table's figure after the desktop state
abbrev pub layout_size : LookupTarget → ℕ
layout_size (Window w) = pixels_start + pixels_size
layout_size (Notification w n) = notification_size + picture_size
layout_size (Cell cache entry) = picture_size
layout_size Desktop = desktop_size + figure_length
layout_size Windows = list_size
layout_size Notifications = list_size
layout_size (Shares g k) = 1

-- the marks of a record say which of its icons show a picture
abbrev pub first_there : List (Option (List ℕ)) → ℕ
first_there [] = 0
first_there (p ∷ ps) = is_there p

abbrev pub second_there : List (Option (List ℕ)) → ℕ
second_there [] = 0
second_there (p ∷ ps) = first_there ps

abbrev pub third_there : List (Option (List ℕ)) → ℕ
third_there [] = 0
third_there (p ∷ ps) = second_there ps

-- the pictures before the newer fields, and after them
abbrev pub pictures_bytes : List (Option (List ℕ)) → List ℕ
pictures_bytes pictures = flatten (map shown_bytes pictures)

-- a window as two records, each with pictures after it
abbrev pub window_bytes : List (List ℕ) → List (Option (List ℕ)) → List ℕ
window_bytes fields pictures =
    record_bytes older_fields (record { first = first_there pictures; second = second_there pictures; fields = older_of fields })
    ++ (pictures_bytes (take 2 pictures)
    ++ (record_bytes newer_fields (record { first = third_there pictures; second = 0; fields = newer_of fields })
    ++ pictures_bytes (drop 2 pictures)))

-- then its pixels; a notification icon as one record
unfoldable pub listed_bytes : Family → List (List ℕ) → List (Option (List ℕ)) → List ℕ
listed_bytes family.Windows fields pictures = window_bytes fields pictures ++ bytes_of pixels_size (pixels_of (unmarked fields))
listed_bytes family.Notifications fields pictures =
    record_bytes notification_fields (record { first = first_there pictures; second = second_there pictures; fields = fields })
    ++ pictures_bytes pictures

unfoldable pub payload_bytes : LookupTarget → Payload → List ℕ
payload_bytes target nothing = []
payload_bytes target (listed f fields pictures) = listed_bytes f fields pictures
payload_bytes target (desktop b f) = record_bytes desktop_fields b ++ figure_bytes f
payload_bytes target (picture p) = picture_bytes p
payload_bytes target (ids f ks) = list_bytes f ks
payload_bytes target (orders os) = []
payload_bytes target (shared b) = pick b 1 0 ∷ []

-- the session record of the orders handed out
unfoldable pub session_record : Payload → List ℕ
session_record nothing = []
session_record (listed f fields pictures) = []
session_record (desktop b f) = []
session_record (picture p) = []
session_record (ids f ks) = []
session_record (orders os) = record_of os
session_record (shared b) = []

-- of any call: so many bytes are enough whatever it hands out
abbrev pub needed_for : Call → ℕ
needed_for (reset n) = 0
needed_for (deliver o) = 0
needed_for checkpoint = 0
needed_for (undo k) = 0
needed_for (look target) = layout_size target
needed_for write_record = most_record

-- so many it needs for what it hands out
abbrev pub size_for : Call → Payload → ℕ
size_for (reset n) p = 0
size_for (deliver o) p = 0
size_for checkpoint p = 0
size_for (undo k) p = 0
size_for (look target) p = layout_size target
size_for write_record p = length (session_record p)

abbrev pub bytes_for : Call → Payload → List ℕ
bytes_for (reset n) p = []
bytes_for (deliver o) p = []
bytes_for checkpoint p = []
bytes_for (undo k) p = []
bytes_for (look target) p = payload_bytes target p
bytes_for write_record p = session_record p

-- ---- the outcome

abbrev pub reply_of : Answer → Reply
reply_of a = record { number = a.number; count = a.count; bytes = a.bytes }

-- 14 comes after the call's own numbers
unfoldable pub answer_within : Call → Answer → ℕ → Answer
answer_within c a room = pick (both (eqb a.number 0) (ltb room (size_for c a.payload))) (refuse 14) a

-- what is handed out stands at the start of the output memory; a refusal leaves it
unfoldable pub out_after_of : Call → Answer → List ℕ → List ℕ
out_after_of c a out = pick (eqb (answer_within c a (length out)).number 0) (splice out 0 (bytes_for c a.payload)) out

unfoldable pub response_of : Request → Answer → Response
response_of q a =
    record {
      reply = reply_of (answer_within q.call a (length q.out));
      out = out_after_of q.call a q.out;
    }

-- its response, what the state memory then describes, that a refusal leaves each of its bytes, and that the bytes past the needed
-- lengths are as they were
pub record CallOutcome (q : Request) (m : Memory) (r : Response) (m' : Memory) : Type 0 where
  pub says : r ≡ response_of q (answer_view q.call (view_of m))
  pub holds : view_of m' ≡ next_view q.call (view_of m)
  pub kept : (r.reply.number ≡ 0 → ⊥) → m' ≡ m
  pub past : Past m m'
