-- What lent state memory describes, and document 01's rule "well formed". Assumes nothing.
use Rattle.std.specs.Prelude.{ℕ, ◌≡◌, Bool, false, not, List, [], ◌∷◌, ltb, length, drop}
use Rattle.wire.specs.Tests.{pick, both, any}
use Rattle.places.specs.Sizes.{fewest_places}
use Rattle.places.specs.Memory.{places_of}
use Rattle.figure.specs.Kept.{kept_length, figures_ok}
use Rattle.store.specs.Store.{places_in}
use Rattle.table.specs.Memory.{bodies_length, decode, sound_table}
use Rattle.table.specs.Outcome.{StoreKept}
use Rattle.journal.specs.Limits.{journal_length, most_orders, log_start}
use Rattle.journal.specs.State.{State, all_accepted}
use Rattle.journal.specs.Journal.{count_of, within_from, log_of}

-- the parts: index with the figures behind it, bodies with the heads of pictures, and store of the table at the mark; the journal
pub record Memory : Type 0 where
  pub index : List ℕ
  pub bodies : List ℕ
  pub store : List (List ℕ)
  pub journal : List ℕ

abbrev pub memory : List ℕ → List ℕ → List (List ℕ) → List ℕ → Memory
memory index bodies store journal = record { index = index; bodies = bodies; store = store; journal = journal }

-- so it is in every store that lends so many places: a call that reads and writes no picture is told their number alone
abbrev pub InEachStore : ℕ → (List (List ℕ) → Type 0) → Type 0
InEachStore lent claim = (p : List (List ℕ)) → places_in p ≡ lent → claim p

-- a part is shorter than needed, or the store has fewer than 12 places
abbrev pub short_of : List ℕ → List ℕ → ℕ → List ℕ → Bool
short_of index bodies lent journal =
    any
    (ltb (length index) kept_length ∷ ltb (length bodies) bodies_length ∷ ltb lent fewest_places
    ∷ ltb (length journal) journal_length ∷ [])

abbrev pub too_short : Memory → Bool
too_short m = short_of m.index m.bodies (places_in m.store) m.journal

-- the bytes past the needed lengths are as they were, and those of the store past its whole places; of its places none past
-- the number that the memory has fixed changes
pub record Past (m m' : Memory) : Type 0 where
  pub index : drop kept_length m'.index ≡ drop kept_length m.index
  pub bodies : drop bodies_length m'.bodies ≡ drop bodies_length m.bodies
  pub store : StoreKept (places_of m.index) m.store m'.store
  pub journal : drop journal_length m'.journal ≡ drop journal_length m.journal

-- the table at the mark is one, its figures are kept, and the journal's orders lie within the room and are accepted in turn
unfoldable pub well_formed : Memory → Bool
well_formed m =
    pick (not (sound_table m.index m.bodies (places_in m.store))) false
    (pick (not (figures_ok m.index m.bodies)) false
    (pick (ltb most_orders (count_of m.journal)) false
    (pick (not (within_from (count_of m.journal) log_start m.journal)) false
    (all_accepted (decode m.index m.bodies m.store) (log_of m.journal)))))

-- document 01's rule: long enough, and well formed
abbrev pub meets_rule : Memory → Bool
meets_rule m = both (not (too_short m)) (well_formed m)

unfoldable pub state_of : Memory → State
state_of m = record { marked = decode m.index m.bodies m.store; log = log_of m.journal }

pub data View : Type 0 where
  short : View
  unformed : View
  formed : State → View

unfoldable pub view_of : Memory → View
view_of m = pick (too_short m) short (pick (well_formed m) (formed (state_of m)) unformed)
