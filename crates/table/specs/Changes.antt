-- What the change of a plan does to the memory of the bodies and to the store. Assumes nothing.
use Rattle.std.specs.Prelude.{ℕ, ◌+◌, ◌-◌, ◌≤◌, ◌<◌, ◌≡◌, Bool, true, false, List, length}
use Rattle.wire.specs.Tests.{pick, both, has}
use Rattle.wire.specs.Parts.{splice}
use Rattle.order.specs.Icons.{parts_of}
use Rattle.protocol.specs.Flags.{desktop_none}
use Rattle.places.specs.Sizes.{slot_count, most_places}
use Rattle.places.specs.Memory.{with_picture}
use Rattle.index.specs.declared.Change.{Change}
use Rattle.index.specs.declared.Plan.{Plan}
use Rattle.index.specs.declared.Plan.TheVariants.{ChangeRecord, ChangeDesktop, Refuse}
use Rattle.index.specs.Orders.{brings_icon}
use Rattle.body.specs.Bodies.{desktop_fields, slot_length, slot_start, slot_of}
use Rattle.body.specs.Stores.{store_of, prepared_of, hooked_of, synced_of, room_all, EndsWell}
use Rattle.cache.specs.Cells.{carried_picture}
use Rattle.store.specs.Store.{place_length}
use Rattle.picture.specs.Pictures.{heads_after_of, store_after}
use Rattle.table.specs.declared.Brought.{Brought}
use Rattle.table.specs.Table.{field_rows, fields_at}
use Rattle.table.specs.Memory.{heads_start, heads_of}

-- a slot after the order of a change
unfoldable pub slot_after : List ℕ → Change → List ℕ → List ℕ
slot_after s c slot = store_of (field_rows c.family) 2 c.flags s (fields_at c.family) (prepared_of c.fresh slot)

-- a change that puts a picture at its place
abbrev pub puts_picture : Change → Bool
puts_picture c = pick c.deleted false (brings_icon c.flags)

-- the slots after a change; then the heads
unfoldable pub slots_after : List ℕ → Change → List ℕ → List ℕ
slots_after s c bodies = pick c.deleted bodies (splice bodies (slot_start c.slot) (slot_after s c (slot_of bodies c.slot)))

unfoldable pub heads_put : List ℕ → Change → List ℕ → List ℕ
heads_put s c bodies = pick (puts_picture c) (splice bodies heads_start (heads_after_of (heads_of bodies) c.place s c.icon)) bodies

-- the desktop's slot after an order
unfoldable pub desktop_slot : ℕ → List ℕ → List ℕ → List ℕ
desktop_slot flags s slot =
    pick (has flags desktop_none) (prepared_of true slot)
    (store_of desktop_fields 2 flags s 7 (synced_of flags (hooked_of flags slot)))

unfoldable pub slots_by : List ℕ → Plan → List ℕ → List ℕ
slots_by s (ChangeRecord c) bodies = slots_after s c bodies
slots_by s (ChangeDesktop flags) bodies = splice bodies (slot_start 48) (desktop_slot flags s (slot_of bodies 48))
slots_by s (Refuse n) bodies = bodies

-- the picture that a plan puts
unfoldable pub brought_by : Plan → Brought
brought_by (ChangeRecord c) = record { there = puts_picture c; place = c.place; icon = c.icon }
brought_by (ChangeDesktop flags) = record { there = false; place = 0; icon = 0 }
brought_by (Refuse n) = record { there = false; place = 0; icon = 0 }

unfoldable pub heads_by : List ℕ → Plan → List ℕ → List ℕ
heads_by s (ChangeRecord c) bodies = heads_put s c bodies
heads_by s (ChangeDesktop flags) bodies = bodies
heads_by s (Refuse n) bodies = bodies

abbrev pub bodies_by : List ℕ → Plan → List ℕ → List ℕ
bodies_by s p bodies = heads_by s p (slots_by s p bodies)

unfoldable pub store_by : List ℕ → Plan → List (List ℕ) → List (List ℕ)
store_by s (ChangeRecord c) store = pick (puts_picture c) (store_after store c.place s c.icon) store
store_by s (ChangeDesktop flags) store = store
store_by s (Refuse n) store = store

-- the pictures at the places after a plan
unfoldable pub pictures_by : List ℕ → Plan → (ℕ → List ℕ) → ℕ → List ℕ
pictures_by s (ChangeRecord c) pictures = pick (puts_picture c) (with_picture pictures c.place (carried_picture s c.icon)) pictures
pictures_by s (ChangeDesktop flags) pictures = pictures
pictures_by s (Refuse n) pictures = pictures

-- ---- what the changes ask

-- an icon's bytes, where one is carried, reach to the order's end and fit a place
pub record IconFits (s : List ℕ) (flags icon : ℕ) : Type 0 where
  pub low : brings_icon flags ≡ true → icon ≤ length s
  pub end : brings_icon flags ≡ true → (parts_of s icon).end ≡ length s
  pub bytes : brings_icon flags ≡ true → (parts_of s icon).end - (parts_of s icon).mask ≤ place_length

pub record Able (s : List ℕ) (c : Change) : Type 0 where
  pub slot : c.slot < slot_count
  pub room : 2 + room_all (field_rows c.family) ≤ slot_length c.slot
  pub place : c.place < most_places
  pub within : fields_at c.family ≤ length s
  pub fields : EndsWell (field_rows c.family) c.flags s (fields_at c.family)
  pub icon : IconFits s c.flags c.icon

-- what the changes of a plan ask
unfoldable pub Follows : List ℕ → Plan → Type 0
Follows s (ChangeRecord c) = Able s c
Follows s (ChangeDesktop flags) = (7 ≤ length s) × EndsWell desktop_fields flags s 7
Follows s (Refuse n) = Unit {0}
