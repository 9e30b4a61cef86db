-- What the functions over a journal leave: the replay of its orders on the memory of an index, with what is looked up followed
-- beside it; the validation of any memory; its orders applied to a table. Assumes nothing.
use Rattle.std.specs.Prelude.{Option, Some, None, ℕ, zero, suc, ◌+◌, ◌-◌, ◌≤◌, ◌≡◌, Bool, true, false, not, List, eqb, ltb}
use Rattle.wire.specs.Tests.{pick, both}
use Rattle.wire.specs.Parts.{slice, splice}
use Rattle.places.specs.Memory.{places_of}
use Rattle.slots.specs.Families.{index_length}
use Rattle.slots.specs.Sound.{sound_index}
use Rattle.index.specs.Plans.{plan_of, plan_number}
use Rattle.index.specs.Changes.{applied_of}
use Rattle.index.specs.Memory.{index_of}
use Rattle.figure.specs.Kept.{figures_ok}
use Rattle.store.specs.Store.{places_in}
use Rattle.picture.specs.Pictures.{picture_at, head_ok}
use Rattle.follow.specs.declared.Want.{Want}
use Rattle.table.specs.Memory.{heads_of, decode, sound_table}
use Rattle.table.specs.Outcome.{StoreKept, PastKept}
use Rattle.follow.specs.Follow.{held_origins, origin_at, carried_by, begin_of, followed_of, Holds}
use Rattle.journal.specs.declared.JournalExtent.{JournalExtent}
use Rattle.journal.specs.Limits.{journal_length, most_orders, log_start}
use Rattle.journal.specs.State.{present, run}
use Rattle.journal.specs.Journal.{count_of, size_at, order_at, orders_from, end_from}
use Rattle.journal.specs.View.{Memory, short_of, meets_rule, state_of}

-- ---- one order: its plan applied to the index, and to what is followed; a refused one changes nothing

abbrev pub index_after : List ℕ → List ℕ → List ℕ
index_after d o = applied_of d (plan_of d o)

-- the order stands at index q of the journal
abbrev pub followed_after : Option Want → ℕ → List ℕ → List ℕ → List ℕ → List ℕ
followed_after want q d o m = followed_of want q o (plan_of d o) m

-- ---- n orders from index p on: where they end, or 0 where one is cut or refused, and the two memories then

pub record Replay : Type 0 where
  pub end : ℕ
  pub index : List ℕ
  pub followed : List ℕ

abbrev pub stopped : List ℕ → List ℕ → Replay
stopped d m = record { end = 0; index = d; followed = m }

unfoldable pub replay_from : Option Want → ℕ → ℕ → List ℕ → List ℕ → List ℕ → Replay
replay_from want zero p journal d m = record { end = p; index = d; followed = m }
replay_from want (suc n) p journal d m =
    pick (ltb (journal_length - p) (size_at journal p)) (stopped d m)
    (pick (eqb (plan_number (plan_of d (order_at journal p))) 0)
    (replay_from want n (p + size_at journal p) journal (index_after d (order_at journal p)) (followed_after want p d (order_at journal p) m))
    (stopped (index_after d (order_at journal p)) (followed_after want p d (order_at journal p) m)))

pub record Replayed (r : Replay) (e : ℕ) (d' m' : List ℕ) : Type 0 where
  pub end : e ≡ r.end
  pub index : d' ≡ r.index
  pub followed : m' ≡ r.followed

-- n orders from the mark on: on a copy of the index in d, and on what the table at the mark has of the target in f
unfoldable pub from_mark : Option Want → List ℕ → List ℕ → List ℕ → ℕ → List ℕ → List ℕ → Replay
from_mark want index bodies journal n d f =
    replay_from want n log_start journal (splice d 0 (slice index 0 index_length)) (begin_of want index bodies f)

-- ---- any memory validated

-- how many orders stand and where they end, where the rule is met
abbrev pub extent_in : Memory → JournalExtent
extent_in m = record { count = count_of m.journal; end = end_from (count_of m.journal) log_start m.journal }

unfoldable pub extent_of : Memory → Option JournalExtent
extent_of m = pick (meets_rule m) (Some (extent_in m)) None

-- the orders can be replayed: long enough, a table at the mark with its figures, and a count within the room; so many places are lent
unfoldable pub replayable : List ℕ → List ℕ → ℕ → List ℕ → Bool
replayable index bodies lent journal =
    pick (short_of index bodies lent journal) false
    (pick (sound_table index bodies lent) (both (figures_ok index bodies) (not (ltb most_orders (count_of journal)))) false)

unfoldable pub validation_of : Option Want → Memory → List ℕ → List ℕ → Replay
validation_of want m d f =
    pick (replayable m.index m.bodies (places_in m.store) m.journal)
    (from_mark want m.index m.bodies m.journal (count_of m.journal) d f)
    (stopped d f)

-- the pictures at the mark, those that orders have brought since, and the test of a head at the mark
abbrev pub marked_pictures : Memory → ℕ → List ℕ
marked_pictures m = picture_at (heads_of m.bodies) m.store

abbrev pub since_pictures : Memory → ℕ → List ℕ
since_pictures m q = carried_by (order_at m.journal q)

abbrev pub head_is_ok : Memory → ℕ → Bool
head_is_ok m = head_ok (heads_of m.bodies)

-- what the two memories then mean where the rule is met: an index of the present table, and what it has of the target; where a
-- picture came since the mark, its order lies within the journal
pub record Validated (want : Option Want) (m : Memory) (d' f' : List ℕ) : Type 0 where
  pub sound : sound_index d' ≡ true
  pub index : index_of d' ≡ (present (state_of m)).index
  pub places : places_of d' ≡ places_of m.index
  pub holds : Holds want (present (state_of m)) d' f' (marked_pictures m) (since_pictures m) (head_is_ok m)
  pub origins : (p : ℕ) → (origin_at (held_origins want f') p ≡ 0 → ⊥) → origin_at (held_origins want f') p + size_at m.journal (origin_at (held_origins want f') p) ≤ journal_length

pub record Validation (want : Option Want) (m : Memory) (d f : List ℕ) (w : Option JournalExtent) (d' f' : List ℕ) : Type 0 where
  pub extent : w ≡ extent_of m
  pub index : d' ≡ (validation_of want m d f).index
  pub followed : f' ≡ (validation_of want m d f).followed
  pub means : meets_rule m ≡ true → Validated want m d' f'

-- ---- n orders applied to a table

pub record Applied (x b : List ℕ) (p : List (List ℕ)) (j : List ℕ) (n : ℕ) (x' b' : List ℕ) (p' : List (List ℕ)) : Type 0 where
  pub table : decode x' b' p' ≡ run (decode x b p) (orders_from n log_start j)
  pub sound : sound_table x' b' (places_in p') ≡ true
  pub places : places_of x' ≡ places_of x
  pub past : PastKept x b x' b'
  pub store : StoreKept (places_of x) p p'
