-- What a plan changes in the memory of an index. Assumes nothing.
use Rattle.std.specs.Prelude.{ℕ, ◌+◌, ◌<◌, ◌≡◌, true, List, [], ◌∷◌, replicate}
use Rattle.wire.specs.Tests.{pick, has}
use Rattle.wire.specs.Numbers.{bytes_of}
use Rattle.wire.specs.Parts.{splice}
use Rattle.protocol.specs.Flags.{desktop_none}
use Rattle.places.specs.Sizes.{slot_count, holder_count, holders_length, most_places}
use Rattle.places.specs.Holder.{icon_number}
use Rattle.places.specs.Changes.{point_all, share_of, release_of, release_all_of, release_records_of}
use Rattle.slots.specs.Families.{slot_at, slots_length, index_length}
use Rattle.index.specs.declared.Change.{Change}
use Rattle.index.specs.declared.Plan.{Plan}
use Rattle.index.specs.declared.Plan.TheVariants.{ChangeRecord, ChangeDesktop, Refuse}
use Rattle.index.specs.Orders.{brings_icon, brings_cached, clears_overlay}

-- the ids a and b listed in slot i
unfoldable pub listed_of : List ℕ → ℕ → ℕ → ℕ → List ℕ
listed_of x i a b = splice (splice (splice x (slot_at i) (bytes_of 1 1)) (slot_at i + 1) (bytes_of 4 a)) (slot_at i + 5) (bytes_of 4 b)

-- slot i free
unfoldable pub freed_of : List ℕ → ℕ → List ℕ
freed_of x i = splice x (slot_at i) (bytes_of 1 0)

-- the icons of the record in slot i
abbrev pub icons_at : ℕ → List ℕ
icons_at i = icon_number i 0 ∷ icon_number i 1 ∷ icon_number i 2 ∷ []

-- a record deleted: its icons let go, its slot is free
unfoldable pub removed_of : List ℕ → ℕ → List ℕ
removed_of x i = freed_of (release_all_of x (icons_at i)) i

-- an icon's holders (one, where cell and pointer are the same) at its place, a cached icon's pointer at its cell's, the pointer of an
-- overlay icon that is set to none at nothing
unfoldable pub pictured_of : List ℕ → Change → List ℕ
pictured_of x c =
    pick (brings_icon c.flags) (point_all x (c.cell ∷ c.pointer ∷ []) (c.place + 1))
    (pick (brings_cached c.flags) (share_of x c.pointer c.cell)
    (pick (clears_overlay c.flags) (release_of x c.pointer)
    x))

unfoldable pub changed_of : List ℕ → Change → List ℕ
changed_of x c =
    pick c.deleted (removed_of x c.slot)
    (pictured_of (pick c.fresh (listed_of x c.slot c.window.id c.notify.id) x) c)

-- no record listed, and no record's icon at a place
unfoldable pub cleared_of : List ℕ → List ℕ
cleared_of x = splice (release_records_of x) holders_length (replicate slots_length 0)

-- nothing listed and pointed at, and this many places
unfoldable pub emptied_of : List ℕ → ℕ → List ℕ
emptied_of x places = splice (splice x 0 (replicate index_length 0)) 0 (bytes_of 1 places)

-- the whole change of a plan
unfoldable pub applied_of : List ℕ → Plan → List ℕ
applied_of x (ChangeRecord c) = changed_of x c
applied_of x (ChangeDesktop flags) = pick (has flags desktop_none) (cleared_of x) x
applied_of x (Refuse n) = x

-- ---- for the contracts: the numbers of a change lie in the memory

pub record Fits (c : Change) : Type 0 where
  pub slot : c.slot < slot_count
  pub icon : brings_icon c.flags ≡ true → c.cell < holder_count
  pub cached : brings_cached c.flags ≡ true → c.cell < holder_count
  pub pointer : c.pointer < holder_count
  pub place : c.place < most_places

abbrev pub FitsPlan : Plan → Type 0
FitsPlan (ChangeRecord c) = Fits c
FitsPlan (ChangeDesktop flags) = Unit {0}
FitsPlan (Refuse n) = Unit {0}
