-- Document 01's table with request No. 5, without slots and places: its index, the fields of each listed record, the picture that
-- each holder shows, and the desktop state; the number that an order gets on it, and what an accepted order makes of it. Assumes
-- nothing.
use Rattle.std.specs.Prelude.{ℕ, Bool, not, List, [], eqb}
use Rattle.std.proofs.Math.Option.{Option, none, some}
use Rattle.wire.specs.Tests.{pick, both, has}
use Rattle.rows.specs.declared.Row.{Row}
use Rattle.order.specs.Judge.{judge_of}
use Rattle.protocol.specs.Flags.{desktop_arc_began, desktop_arc_completed, desktop_hooked, desktop_none}
use Rattle.places.specs.declared.Family.{Family}
use Rattle.places.specs.declared.Family.TheVariants.{Windows, Notifications}
use Rattle.places.specs.Sharing.{is_one}
use Rattle.places.specs.Holder.{Holder, cell, same_holder, is_cell_holder, icons_of}
use Rattle.slots.specs.Families.{same_record}
use Rattle.index.specs.declared.RecordOrder.{RecordOrder}
use Rattle.index.specs.Orders.{on_judged, is_new, is_delete, brings_icon, brings_cached, clears_overlay, cell_at, pointer_of, holders_of}
use Rattle.index.specs.Index as index
use Rattle.body.specs.Bodies.{Body, window_fields, notification_fields, desktop_fields, set_flagged, empty_fields, empty_body}
use Rattle.cache.specs.Cells.{carried_picture}

-- the fields of a record that is not listed are none
pub record Table : Type 0 where
  pub index : index.Index
  pub fields : Family → ℕ → ℕ → List (List ℕ)
  pub shown : Holder → Option (List ℕ)
  pub desktop : Body

-- document 01's emptied table, with so many places
unfoldable pub emptied : ℕ → Table
emptied places =
    record { index = index.empty_index places; fields = λ f a b. []; shown = λ h. none; desktop = empty_body desktop_fields }

-- the first of the numbers 2 to 11 and 17 that applies
unfoldable pub number : Table → List ℕ → ℕ
number t s = index.number_in t.index s

-- ---- the change

-- the fields of a family's records, and where they begin in an order
abbrev pub field_rows : Family → List Row
field_rows Windows = window_fields
field_rows Notifications = notification_fields

abbrev pub fields_at : Family → ℕ
fields_at Windows = 11
fields_at Notifications = 15

-- new begins with an empty record
abbrev pub fields_before : Table → RecordOrder → List (List ℕ)
fields_before t o =
    pick (is_new o.family o.flags) (empty_fields (field_rows o.family)) (t.fields o.family o.window.id o.notify.id)

-- the record's fields after an order: flagged ones are set; a deleted record has none
unfoldable pub record_fields : Table → List ℕ → RecordOrder → List (List ℕ)
record_fields t s o =
    pick (is_delete o.flags) [] (set_flagged (field_rows o.family) o.flags s (fields_at o.family) (fields_before t o))

unfoldable pub fields_after : Table → List ℕ → RecordOrder → Family → ℕ → ℕ → List (List ℕ)
fields_after t s o g x y = pick (same_record o.family o.window.id o.notify.id g x y) (record_fields t s o) (t.fields g x y)

-- what holders show: a deleted record's icons nothing, an icon's holders its picture, a cached icon's pointer what its cell shows, an
-- overlay icon that is set to none nothing; all others what they did
unfoldable pub shown_after : Table → List ℕ → RecordOrder → Holder → Option (List ℕ)
shown_after t s o h =
    pick (is_delete o.flags) (pick (is_one same_holder (icons_of o.family o.window.id o.notify.id) h) none (t.shown h))
    (pick (brings_icon o.flags) (pick (is_one same_holder (holders_of s o) h) (some (carried_picture s o.icon)) (t.shown h))
    (pick (brings_cached o.flags) (pick (same_holder h (pointer_of o)) (t.shown (cell (cell_at s o.icon))) (t.shown h))
    (pick (clears_overlay o.flags) (pick (same_holder h (pointer_of o)) none (t.shown h))
    (t.shown h))))

unfoldable pub change_record : Table → List ℕ → RecordOrder → Table
change_record t s o =
    record {
      index = index.change_record t.index s o;
      fields = fields_after t s o;
      shown = shown_after t s o;
      desktop = t.desktop;
    }

-- 2 sets hooked; 8 starts syncing, 4 ends it
unfoldable pub desktop_after : ℕ → List ℕ → Body → Body
desktop_after flags s b =
    record {
      first = pick (has flags desktop_hooked) 1 b.first;
      second = pick (has flags desktop_arc_began) 1 (pick (has flags desktop_arc_completed) 0 b.second);
      fields = set_flagged desktop_fields flags s 7 b.fields;
    }

-- none: an emptied table with the cells as they were
unfoldable pub change_desktop : Table → List ℕ → ℕ → Table
change_desktop t s flags =
    record {
      index = index.change_desktop t.index flags;
      fields = λ g x y. pick (has flags desktop_none) [] (t.fields g x y);
      shown = λ h. pick (both (has flags desktop_none) (not (is_cell_holder h))) none (t.shown h);
      desktop = pick (has flags desktop_none) (empty_body desktop_fields) (desktop_after flags s t.desktop);
    }

-- a refused order changes nothing
unfoldable pub after : Table → List ℕ → Table
after t s = pick (eqb (number t s) 0) (on_judged (judge_of s) (change_record t s) (change_desktop t s) (λ n. t)) t
