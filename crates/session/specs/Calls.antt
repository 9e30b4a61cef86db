-- The state calls: what each answers and what state it leaves. Assumes nothing.
use Rattle.std.specs.Prelude.{ℕ, ◌+◌, ◌*◌, ◌-◌, Bool, true, false, not, List, [], ◌∷◌, ◌++◌, eqb, leb, ltb, length, take}
use Rattle.std.proofs.Math.Option.{Option, none, some}
use Rattle.wire.specs.Tests.{pick, both, either}
use Rattle.places.specs.declared.Family.{Family}
use Rattle.places.specs.declared.Family.TheVariants as family
use Rattle.places.specs.Holder.{Holder, cell, icon}
use Rattle.ids.specs.Ids.{ids_in}
use Rattle.body.specs.Bodies.{Body}
use Rattle.figure.specs.declared.Figure.{Figure}
use Rattle.table.specs.Table.{Table, emptied, number}
use Rattle.table.specs.Memory.{fixed_by}
use Rattle.journal.specs.Limits.{most_orders, most_bytes}
use Rattle.journal.specs.State.{State, present, bytes_in}
use Rattle.journal.specs.View.{View, short, unformed, formed}
use Rattle.present.specs.TableFigure.{figure_in}
use Rattle.session.specs.declared.PictureHolder.{PictureHolder}
use Rattle.session.specs.declared.PictureHolder.TheVariants as holder
use Rattle.session.specs.declared.LookupTarget.{LookupTarget}
use Rattle.session.specs.declared.LookupTarget.TheVariants.{Window, Notification, Cell, Desktop, Windows, Notifications, Shares}

-- document 01's emptying, with so many places lent, delivery, mark, step back and looking up; writing the session record
pub data Call : Type 0 where
  reset : ℕ → Call
  deliver : List ℕ → Call
  checkpoint : Call
  undo : ℕ → Call
  look : LookupTarget → Call
  write_record : Call

-- what a call hands out, raw: of a record its fields and the pictures that its icons show, of the desktop state the figure of the
-- table too, of a list the keys of its ids
pub data Payload : Type 0 where
  nothing : Payload
  listed : Family → List (List ℕ) → List (Option (List ℕ)) → Payload
  desktop : Body → Figure → Payload
  picture : List ℕ → Payload
  ids : Family → List ℕ → Payload
  orders : List (List ℕ) → Payload
  shared : Bool → Payload

-- a granted call reports how many orders stand after the mark and their bytes
pub record Answer : Type 0 where
  pub number : ℕ
  pub count : ℕ
  pub bytes : ℕ
  pub payload : Payload

abbrev pub refuse : ℕ → Answer
refuse n = record { number = n; count = 0; bytes = 0; payload = nothing }

abbrev pub grant : List (List ℕ) → Payload → Answer
grant log payload = record { number = 0; count = length log; bytes = bytes_in log; payload = payload }

-- 12: with the order the history room would be passed
abbrev pub over_full : List (List ℕ) → List ℕ → Bool
over_full log o = either (ltb most_orders (length log + 1)) (ltb most_bytes (bytes_in log + length o))

-- the last k orders taken away
abbrev pub without : ℕ → List (List ℕ) → List (List ℕ)
without k log = take (length log - k) log

-- ---- looking up

abbrev pub a_picture : Option (List ℕ) → Payload
a_picture none = nothing
a_picture (some p) = picture p

-- within the caches
abbrev pub in_caches : ℕ → ℕ → Bool
in_caches cache entry = both (leb cache 1) (leb entry 5)

-- the number of a cell, 12 for one outside the caches, which shows nothing
abbrev pub cell_number : ℕ → ℕ → ℕ
cell_number cache entry = pick (in_caches cache entry) (6 * cache + entry) 12

unfoldable pub holder_of : PictureHolder → Holder
holder_of (holder.Cell cache entry) = cell (cell_number cache entry)
holder_of (holder.Small w) = icon family.Windows w.id 0 0
holder_of (holder.Big w) = icon family.Windows w.id 0 1
holder_of (holder.Overlay w) = icon family.Windows w.id 0 2
holder_of (holder.Notification w n) = icon family.Notifications w.id n.id 0

-- the icons of a record: a window's small, big and overlay one, a notification icon's own
abbrev pub icons_shown : Table → Family → ℕ → ℕ → List (Option (List ℕ))
icons_shown t family.Windows a b = t.shown (icon family.Windows a b 0) ∷ t.shown (icon family.Windows a b 1) ∷ t.shown (icon family.Windows a b 2) ∷ []
icons_shown t family.Notifications a b = t.shown (icon family.Notifications a b 0) ∷ []

-- what a table has of a record
abbrev pub record_in : Table → Family → ℕ → ℕ → Payload
record_in t f a b = pick (t.index.listed f a b) (listed f (t.fields f a b) (icons_shown t f a b)) nothing

-- whether two holders share a place: nothing where one points at none
abbrev pub shared_in : Table → Holder → Holder → Payload
shared_in t g k = pick (both (t.index.sharing.shares g g) (t.index.sharing.shares k k)) (shared (t.index.sharing.shares g k)) nothing

-- what a table has of a target: nothing for an absent id, an empty cell or one outside the caches
unfoldable pub payload_in : LookupTarget → Table → Payload
payload_in (Window w) t = record_in t family.Windows w.id 0
payload_in (Notification w n) t = record_in t family.Notifications w.id n.id
payload_in (Cell cache entry) t = a_picture (t.shown (cell (cell_number cache entry)))
payload_in Desktop t = desktop t.desktop (figure_in t)
payload_in Windows t = ids family.Windows (ids_in t.index family.Windows)
payload_in Notifications t = ids family.Notifications (ids_in t.index family.Notifications)
payload_in (Shares g k) t = shared_in t (holder_of g) (holder_of k)

-- 9 for nothing
abbrev pub found : List (List ℕ) → Payload → Answer
found log nothing = refuse 9
found log (listed f fs ps) = grant log (listed f fs ps)
found log (desktop b f) = grant log (desktop b f)
found log (picture p) = grant log (picture p)
found log (ids f ks) = grant log (ids f ks)
found log (orders os) = grant log (orders os)
found log (shared b) = grant log (shared b)

-- ---- on a state

unfoldable pub answer : Call → State → Answer
answer (reset n) s = grant [] nothing
answer (deliver o) s =
    pick (not (eqb (number (present s) o) 0)) (refuse (number (present s) o))
    (pick (over_full s.log o) (refuse 12) (grant (s.log ++ (o ∷ [])) nothing))
answer checkpoint s = grant [] nothing
answer (undo k) s = pick (ltb (length s.log) k) (refuse 13) (grant (without k s.log) nothing)
answer (look target) s = found s.log (payload_in target (present s))
answer write_record s = grant s.log (orders s.log)

unfoldable pub next : Call → State → State
next (reset n) s = record { marked = emptied (fixed_by n); log = [] }
next (deliver o) s =
    pick (either (not (eqb (number (present s) o) 0)) (over_full s.log o)) s (record { marked = s.marked; log = s.log ++ (o ∷ []) })
next checkpoint s = record { marked = present s; log = [] }
next (undo k) s = pick (ltb (length s.log) k) s (record { marked = s.marked; log = without k s.log })
next (look target) s = s
next write_record s = s

-- ---- on any memory: 1 where it is too short or not well formed, but emptying takes any that is long enough

abbrev pub on_reset : {A : Type 0} → Call → A → (ℕ → A) → A
on_reset (reset n) other change = change n
on_reset (deliver o) other change = other
on_reset checkpoint other change = other
on_reset (undo k) other change = other
on_reset (look target) other change = other
on_reset write_record other change = other

abbrev pub is_reset : Call → Bool
is_reset c = on_reset c false (λ n. true)

unfoldable pub answer_view : Call → View → Answer
answer_view c short = refuse 1
answer_view c unformed = pick (is_reset c) (grant [] nothing) (refuse 1)
answer_view c (formed s) = answer c s

unfoldable pub next_view : Call → View → View
next_view c short = short
next_view c unformed = on_reset c unformed (λ n. formed (record { marked = emptied (fixed_by n); log = [] }))
next_view c (formed s) = formed (next c s)
