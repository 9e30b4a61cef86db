-- A record, the pictures or the desktop state followed through the orders of a journal, in a memory of its own: what it begins
-- with, what a judged order makes of it, and that it holds what a table has. Assumes nothing.
use Rattle.std.specs.Prelude.{Option, Some, None, ℕ, ◌+◌, ◌*◌, ◌-◌, ◌≡◌, Bool, true, not, List, [], eqb, replicate}
use Rattle.wire.specs.Tests.{pick, both}
use Rattle.wire.specs.Numbers.{num_at, bytes_of}
use Rattle.wire.specs.Parts.{slice, splice}
use Rattle.order.specs.Judge.{judge_of}
use Rattle.places.specs.declared.Family.{Family}
use Rattle.places.specs.declared.Family.TheVariants.{Windows, Notifications}
use Rattle.places.specs.Counts.{on_found}
use Rattle.places.specs.Memory.{pointer_at}
use Rattle.places.specs.Holder.{Holder}
use Rattle.slots.specs.Families.{same_record}
use Rattle.slots.specs.Slots as slots
use Rattle.index.specs.declared.Change.{Change}
use Rattle.index.specs.declared.Plan.{Plan}
use Rattle.index.specs.declared.Plan.TheVariants.{ChangeRecord, ChangeDesktop, Refuse}
use Rattle.index.specs.Orders.{on_judged, brings_icon}
use Rattle.body.specs.Bodies.{desktop_fields, slot_start, slot_of, fields_of, body_of, body_ok}
use Rattle.cache.specs.Cells.{carried_picture}
use Rattle.follow.specs.declared.Want.{Want}
use Rattle.follow.specs.declared.Want.TheVariants.{Window, Notification, Pictures, Desktop}
use Rattle.table.specs.Table.{Table, field_rows}
use Rattle.table.specs.Memory.{shown_in}
use Rattle.table.specs.Changes.{puts_picture, slot_after, desktop_slot}

-- ---- the memory: a slot of its family, then for each place, 2 bytes, where its picture came since the mark

abbrev pub origins_length : ℕ
origins_length = 128

abbrev pub slot_room : Family → ℕ
slot_room Windows = 1392
slot_room Notifications = 916

abbrev pub record_room : Family → ℕ
record_room f = slot_room f + origins_length

abbrev pub room_for : Option Want → ℕ
room_for None = 0
room_for (Some (Window w)) = record_room Windows
room_for (Some (Notification w n)) = record_room Notifications
room_for (Some Pictures) = origins_length
room_for (Some Desktop) = 916

abbrev pub held_slot : Family → List ℕ → List ℕ
held_slot f m = slice m 0 (slot_room f)

-- the origins: none where no picture is followed
abbrev pub held_origins : Option Want → List ℕ → List ℕ
held_origins None m = []
held_origins (Some (Window w)) m = slice m (slot_room Windows) origins_length
held_origins (Some (Notification w n)) m = slice m (slot_room Notifications) origins_length
held_origins (Some Pictures) m = slice m 0 origins_length
held_origins (Some Desktop) m = []

-- 0 for a picture of the store at the mark, else the index in the journal of the order that brought it
unfoldable pub origin_at : List ℕ → ℕ → ℕ
origin_at origins p = num_at 2 origins (2 * p)

-- the picture that an order carries
unfoldable pub carried_by : List ℕ → List ℕ
carried_by s = on_judged (judge_of s) (λ o. pick (brings_icon o.flags) (carried_picture s o.icon) []) (λ flags. []) (λ n. [])

-- the pictures at the places now: those at the mark, and those of orders since
unfoldable pub present_pictures : (ℕ → List ℕ) → (ℕ → List ℕ) → List ℕ → ℕ → List ℕ
present_pictures marked since origins p = pick (eqb (origin_at origins p) 0) (marked p) (since (origin_at origins p))

-- ---- the beginning: what the table at the mark has

abbrev pub no_origins : List ℕ
no_origins = replicate origins_length 0

abbrev pub begin_slot : Family → Option ℕ → List ℕ → List ℕ → List ℕ
begin_slot f w bodies m = on_found w m (λ i. splice m 0 (slice bodies (slot_start i) (slot_room f)))

abbrev pub begin_record : Family → Option ℕ → List ℕ → List ℕ → List ℕ
begin_record f w bodies m = splice (begin_slot f w bodies m) (slot_room f) no_origins

unfoldable pub begin_of : Option Want → List ℕ → List ℕ → List ℕ → List ℕ
begin_of None index bodies m = m
begin_of (Some (Window w)) index bodies m = begin_record Windows (slots.slot_of index Windows w.id 0) bodies m
begin_of (Some (Notification w n)) index bodies m = begin_record Notifications (slots.slot_of index Notifications w.id n.id) bodies m
begin_of (Some Pictures) index bodies m = splice m 0 no_origins
begin_of (Some Desktop) index bodies m = splice m 0 (slot_of bodies 48)

-- ---- one order, which begins at index q of the journal: a deleted record is left as it is, since only a new one can come after it

-- the record of the ids a and b of a family
abbrev pub is_for : Family → ℕ → ℕ → Change → Bool
is_for f a b c = same_record c.family c.window.id c.notify.id f a b

unfoldable pub slot_followed : Family → ℕ → ℕ → List ℕ → Change → List ℕ → List ℕ
slot_followed f a b s c m = pick (both (is_for f a b c) (not c.deleted)) (splice m 0 (slot_after s c (held_slot f m))) m

unfoldable pub origins_followed : ℕ → ℕ → Change → List ℕ → List ℕ
origins_followed start q c m = pick (puts_picture c) (splice m (start + 2 * c.place) (bytes_of 2 q)) m

unfoldable pub record_followed : Family → ℕ → ℕ → ℕ → List ℕ → Plan → List ℕ → List ℕ
record_followed f a b q s (ChangeRecord c) m = origins_followed (slot_room f) q c (slot_followed f a b s c m)
record_followed f a b q s (ChangeDesktop flags) m = m
record_followed f a b q s (Refuse n) m = m

unfoldable pub pictures_followed : ℕ → Plan → List ℕ → List ℕ
pictures_followed q (ChangeRecord c) m = origins_followed 0 q c m
pictures_followed q (ChangeDesktop flags) m = m
pictures_followed q (Refuse n) m = m

unfoldable pub desktop_followed : List ℕ → Plan → List ℕ → List ℕ
desktop_followed s (ChangeRecord c) m = m
desktop_followed s (ChangeDesktop flags) m = desktop_slot flags s m
desktop_followed s (Refuse n) m = m

unfoldable pub followed_of : Option Want → ℕ → List ℕ → Plan → List ℕ → List ℕ
followed_of None q s p m = m
followed_of (Some (Window w)) q s p m = record_followed Windows w.id 0 q s p m
followed_of (Some (Notification w n)) q s p m = record_followed Notifications w.id n.id q s p m
followed_of (Some Pictures) q s p m = pictures_followed q p m
followed_of (Some Desktop) q s p m = desktop_followed s p m

-- ---- what the memory then holds, beside an index d of the table

-- each holder shows what d and the pictures say; a place that still has its picture of the mark and is pointed at passes a test
pub record PicturesHeld (t : Table) (d origins : List ℕ) (marked since : ℕ → List ℕ) (ok : ℕ → Bool) : Type 0 where
  pub shows : (h : Holder) → t.shown h ≡ shown_in d (present_pictures marked since origins) h
  pub heads : (h : ℕ) → (pointer_at d h ≡ 0 → ⊥) → origin_at origins (pointer_at d h - 1) ≡ 0 → ok (pointer_at d h - 1) ≡ true

-- the slot has the record's fields, where it is listed
pub record RecordHeld (t : Table) (f : Family) (a b : ℕ) (m : List ℕ) : Type 0 where
  pub fields : t.index.listed f a b ≡ true → fields_of (field_rows f) 2 (held_slot f m) ≡ t.fields f a b
  pub ok : t.index.listed f a b ≡ true → body_ok (field_rows f) 0 0 (held_slot f m) ≡ true

unfoldable pub Holds : Option Want → Table → List ℕ → List ℕ → (ℕ → List ℕ) → (ℕ → List ℕ) → (ℕ → Bool) → Type 0
Holds None t d m marked since ok = Unit {0}
Holds (Some (Window w)) t d m marked since ok = RecordHeld t Windows w.id 0 m × PicturesHeld t d (held_origins (Some (Window w)) m) marked since ok
Holds (Some (Notification w n)) t d m marked since ok =
    RecordHeld t Notifications w.id n.id m × PicturesHeld t d (held_origins (Some (Notification w n)) m) marked since ok
Holds (Some Pictures) t d m marked since ok = PicturesHeld t d (held_origins (Some Pictures) m) marked since ok
Holds (Some Desktop) t d m marked since ok = (body_of desktop_fields m ≡ t.desktop) × (body_ok desktop_fields 1 1 m ≡ true)
