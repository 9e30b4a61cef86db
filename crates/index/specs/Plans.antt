-- An order judged whole, on its bytes and on the memory of an index. Assumes nothing.
use Rattle.std.specs.Prelude.{ℕ, Bool, List, [], ◌∷◌, eqb, leb}
use Rattle.wire.specs.Tests.{pick, both, either}
use Rattle.order.specs.Judge.{judge_of}
use Rattle.places.specs.declared.Family.{Family}
use Rattle.places.specs.Sizes.{cell_count, slot_count}
use Rattle.places.specs.Counts.{on_found}
use Rattle.places.specs.Memory.{pointer_at}
use Rattle.places.specs.Changes.{free_place}
use Rattle.places.specs.Holder.{icon_number}
use Rattle.slots.specs.Slots.{slot_of, free_of}
use Rattle.index.specs.declared.RecordOrder.{RecordOrder}
use Rattle.index.specs.declared.Place.{Place}
use Rattle.index.specs.declared.Place.TheVariants.{Slot, Not}
use Rattle.index.specs.declared.Change.{Change}
use Rattle.index.specs.declared.Plan.{Plan}
use Rattle.index.specs.declared.Plan.TheVariants.{ChangeRecord, ChangeDesktop, Refuse}
use Rattle.index.specs.Orders.{on_judged, is_new, is_delete, brings_icon, brings_cached, cell_at, which_of}

-- 9 and 10, or the slot of the record of the ids: for a fresh record, the first free one
abbrev pub place_for : List ℕ → Family → ℕ → ℕ → Bool → Place
place_for x family a b fresh =
    on_found (slot_of x family a b)
    (pick fresh (on_found (free_of x family) (Not 10) Slot) (Not 9))
    (λ i. pick fresh (Not 9) (Slot i))

unfoldable pub slot_for : List ℕ → RecordOrder → Place
slot_for x o = place_for x o.family o.window.id o.notify.id (is_new o.family o.flags)

-- 11
unfoldable pub lacks_picture : List ℕ → ℕ → ℕ → Bool
lacks_picture x flags c = both (brings_cached flags) (either (leb cell_count c) (eqb (pointer_at x c) 0))

-- the number of the pointer that an icon sets
abbrev pub pointer_for : ℕ → ℕ → ℕ
pointer_for i flags = icon_number i (which_of flags)

-- the holder that takes a place with a pointer: the cell c, or the pointer itself where c is none
unfoldable pub beside_of : ℕ → ℕ → ℕ
beside_of c pointer = pick (leb cell_count c) pointer c

abbrev pub cell_for : List ℕ → RecordOrder → ℕ → ℕ
cell_for s o i = beside_of (cell_at s o.icon) (pointer_for i o.flags)

-- a record's change in slot i, with the holders and the place of its icon
abbrev pub change_with : RecordOrder → ℕ → ℕ → ℕ → ℕ → Change
change_with o i cell pointer place =
    record {
      family = o.family;
      slot = i;
      fresh = is_new o.family o.flags;
      deleted = is_delete o.flags;
      window = o.window;
      notify = o.notify;
      flags = o.flags;
      icon = o.icon;
      cell = cell;
      pointer = pointer;
      place = place;
    }

-- its icon at a place (0 where it brings none)
abbrev pub change_of : List ℕ → RecordOrder → ℕ → ℕ → Change
change_of s o i place = change_with o i (cell_for s o i) (pointer_for i o.flags) place

-- 17, or the place
unfoldable pub plan_at : List ℕ → List ℕ → RecordOrder → ℕ → Plan
plan_at x s o i =
    pick (brings_icon o.flags)
    (on_found (free_place x (cell_for s o i ∷ pointer_for i o.flags ∷ [])) (Refuse 17) (λ p. ChangeRecord (change_of s o i p)))
    (ChangeRecord (change_of s o i 0))

-- 11, 17, or the change of the record in slot i
abbrev pub plan_in : List ℕ → List ℕ → RecordOrder → ℕ → Plan
plan_in x s o i = pick (lacks_picture x o.flags (cell_at s o.icon)) (Refuse 11) (plan_at x s o i)

abbrev pub on_place : Place → (ℕ → Plan) → Plan
on_place (Slot i) plan = plan i
on_place (Not n) plan = Refuse n

unfoldable pub plan_record : List ℕ → List ℕ → RecordOrder → Plan
plan_record x s o = on_place (slot_for x o) (plan_in x s o)

unfoldable pub plan_of : List ℕ → List ℕ → Plan
plan_of x s = on_judged (judge_of s) (plan_record x s) ChangeDesktop Refuse

-- the paper's number of a plan
abbrev pub plan_number : Plan → ℕ
plan_number (ChangeRecord c) = 0
plan_number (ChangeDesktop flags) = 0
plan_number (Refuse n) = n

-- the slot of the record that a plan changes; past the last where it changes none
abbrev pub plan_slot : Plan → ℕ
plan_slot (ChangeRecord c) = c.slot
plan_slot (ChangeDesktop flags) = slot_count
plan_slot (Refuse n) = slot_count
