-- What the change of a slot makes of the body in it. Assumes nothing.
use mathlib.Core.Path.{◌≡◌, refl, ap, ◌∙◌}
use mathlib.Core.Bool.{Bool, true, false}
use mathlib.Core.List.{List}
use Prim.Native.Nat.{ℕ, ◌+◌, ◌≤◌}
use native.Mathlib.Omega.{arith}
use lib.ListN.{length}
use Rattle.wire.specs.Tests.{pick, has}
use Rattle.wire.specs.Numbers.{num_at}
use Rattle.protocol.specs.Flags.{desktop_arc_began, desktop_arc_completed, desktop_hooked, desktop_none}
use Rattle.places.specs.declared.Family.{Family}
use Rattle.places.specs.declared.Family.TheVariants.{Windows, Notifications}
use Rattle.rows.specs.declared.Row.{Row}
use Rattle.index.specs.declared.Change.{Change}
use Rattle.body.specs.Bodies.{Body, desktop_fields, slot_length, set_flagged, fields_of, body_of, body_ok, empty_fields, empty_body}
use Rattle.body.specs.Stores.{store_of, prepared_of, hooked_of, synced_of, room_all, EndsWell}
use Rattle.slots.proofs.Soundness.{Within}
use Rattle.body.proofs.Placed.{All, Placed, placed}
use Rattle.body.proofs.Slots.{window_length_lem, other_length}
use Rattle.body.proofs.Stored.{stored}
use Rattle.body.proofs.Marks.{Fine, fine, stored_body, stored_ok, Marked, marked_body, marked_ok_lem, hooked, synced}
use Rattle.body.proofs.Fresh.{prepared_body, prepared_ok, length_prepared, window_room, notification_room, desktop_room}
use Rattle.table.specs.Table.{field_rows, fields_at, desktop_after}
use Rattle.table.specs.Changes.{slot_after, desktop_slot, Able}

-- ---- by family

family_placed : (f : Family) → All Placed (field_rows f)
family_placed Windows = placed 1 22
family_placed Notifications = placed 23 29

-- a slot of a family has room for its fields
pub family_room : (f : Family) (i : ℕ) → Within f i → 2 + room_all (field_rows f) ≤ slot_length i
family_room Windows i w = omega (arith, window_room, window_length_lem i w.high)
family_room Notifications i w = omega (arith, notification_room, other_length i w.low)

pub family_begins : (f : Family) → 1 ≤ fields_at f
family_begins Windows = omega arith
family_begins Notifications = omega arith

pub desktop_fits : 2 + room_all desktop_fields ≤ 916
desktop_fits = omega (arith, desktop_room)

-- ---- a record's slot

empty_fields_lem : (rows : List Row) (slot : List ℕ) → body_of rows (prepared_of true slot) ≡ empty_body rows → fields_of rows 2 (prepared_of true slot) ≡ empty_fields rows
unfolding body_of empty_body
empty_fields_lem rows slot e = ap (λ (b : Body). b.fields) e

module _ (s : List ℕ) (c : Change) (slot : List ℕ) (long : 2 + room_all (field_rows c.family) ≤ length slot) (a : Able s c) where
  abbrev rows : List Row
  rows = field_rows c.family

  abbrev at : ℕ
  at = fields_at c.family

  abbrev ready : List ℕ
  ready = prepared_of c.fresh slot

  ready_long : length ready ≡ length slot
  ready_long = length_prepared c.fresh slot

  room : 2 + room_all rows ≤ length ready
  room = omega (arith, long, ready_long)

  pub slot_length_lem : length (slot_after s c slot) ≡ length slot
  unfolding slot_after
  slot_length_lem = (stored rows 2 c.flags s at ready (family_placed c.family) a.fields (family_begins c.family) a.within room).same ∙ ready_long

  -- a new record begins empty
  ready_fields : fields_of rows 2 ready ≡ pick c.fresh (empty_fields rows) (fields_of rows 2 slot)
  ready_fields = go c.fresh
    where
      go : (t : Bool) → fields_of rows 2 (prepared_of t slot) ≡ pick t (empty_fields rows) (fields_of rows 2 slot)
      go true = empty_fields_lem rows slot (prepared_body rows slot long)
      go false = unfold prepared_of in refl

  pub slot_fields : fields_of rows 2 (slot_after s c slot) ≡ set_flagged rows c.flags s at (pick c.fresh (empty_fields rows) (fields_of rows 2 slot))
  unfolding slot_after
  slot_fields =
      (stored rows 2 c.flags s at ready (family_placed c.family) a.fields (family_begins c.family) a.within room).fields
      ∙ ap (set_flagged rows c.flags s at) ready_fields

  pub slot_ok_lem : (c.fresh ≡ false → body_ok rows 0 0 slot ≡ true) → body_ok rows 0 0 (slot_after s c slot) ≡ true
  unfolding slot_after
  slot_ok_lem h = stored_ok rows c.flags s at ready (family_placed c.family) a.fields (family_begins c.family) a.within room 0 0 (go c.fresh refl)
    where
      go : (t : Bool) → c.fresh ≡ t → body_ok rows 0 0 (prepared_of t slot) ≡ true
      go true e = prepared_ok rows slot long 0 0 (family_placed c.family)
      go false e = unfold prepared_of in h e

-- ---- the desktop's slot

module _ (flags : ℕ) (s slot : List ℕ) (long : length slot ≡ 916) (inside : 7 ≤ length s) (e : EndsWell desktop_fields flags s 7) where
  abbrev hook : List ℕ
  hook = hooked_of flags slot

  abbrev sync : List ℕ
  sync = synced_of flags hook

  hook_is : Marked slot hook (pick (has flags desktop_hooked) 1 (num_at 1 slot 0)) (num_at 1 slot 1)
  hook_is = hooked slot (omega arith) flags

  sync_is : Marked hook sync (num_at 1 hook 0) (pick (has flags desktop_arc_began) 1 (pick (has flags desktop_arc_completed) 0 (num_at 1 hook 1)))
  sync_is = synced hook (omega (arith, hook_is.same)) flags

  sync_long : length sync ≡ 916
  sync_long = sync_is.same ∙ hook_is.same ∙ long

  sync_room : 2 + room_all desktop_fields ≤ length sync
  sync_room = omega (arith, desktop_room, sync_long)

  pub desktop_length : length (desktop_slot flags s slot) ≡ 916
  unfolding desktop_slot
  desktop_length = go (has flags desktop_none)
    where
      go : (t : Bool) → length (pick t (prepared_of true slot) (store_of desktop_fields 2 flags s 7 sync)) ≡ 916
      go true = length_prepared true slot ∙ long
      go false = (stored desktop_fields 2 flags s 7 sync (placed 29 31) e (omega arith) inside sync_room).same ∙ sync_long

  -- what the desktop state becomes
  pub desktop_body : body_of desktop_fields (desktop_slot flags s slot)
      ≡ pick (has flags desktop_none) (empty_body desktop_fields) (desktop_after flags s (body_of desktop_fields slot))
  unfolding desktop_slot desktop_after body_of
  desktop_body = go (has flags desktop_none)
    where
      fs : fields_of desktop_fields 2 sync ≡ fields_of desktop_fields 2 slot
      fs =
          ap (λ (b : Body). b.fields) (marked_body desktop_fields hook sync _ _ sync_is)
          ∙ ap (λ (b : Body). b.fields) (marked_body desktop_fields slot hook _ _ hook_is)

      go : (t : Bool) → body_of desktop_fields (pick t (prepared_of true slot) (store_of desktop_fields 2 flags s 7 sync))
          ≡ pick t (empty_body desktop_fields) (desktop_after flags s (body_of desktop_fields slot))
      go true = prepared_body desktop_fields slot (omega (arith, desktop_room, long))
      go false =
          stored_body desktop_fields flags s 7 sync (placed 29 31) e (omega arith) inside sync_room
          ∙ rw (sync_is.first, sync_is.second, fs, hook_is.first, hook_is.second)

  pub desktop_ok : body_ok desktop_fields 1 1 slot ≡ true → body_ok desktop_fields 1 1 (desktop_slot flags s slot) ≡ true
  unfolding desktop_slot
  desktop_ok h = go (has flags desktop_none)
    where
      was : Fine desktop_fields 1 1 slot
      was = fine desktop_fields 1 1 slot h

      first_fits : pick (has flags desktop_hooked) 1 (num_at 1 slot 0) ≤ 1
      first_fits = go (has flags desktop_hooked)
        where
          go : (t : Bool) → pick t 1 (num_at 1 slot 0) ≤ 1
          go true = omega arith
          go false = was.first

      hook-ok : body_ok desktop_fields 1 1 hook ≡ true
      hook-ok = marked_ok_lem desktop_fields slot hook _ _ hook_is 1 1 first_fits was.second was.fields

      held : Fine desktop_fields 1 1 hook
      held = fine desktop_fields 1 1 hook hook-ok

      second_fits : pick (has flags desktop_arc_began) 1 (pick (has flags desktop_arc_completed) 0 (num_at 1 hook 1)) ≤ 1
      second_fits = go (has flags desktop_arc_began) (has flags desktop_arc_completed)
        where
          go : (t u : Bool) → pick t 1 (pick u 0 (num_at 1 hook 1)) ≤ 1
          go true u = omega arith
          go false true = omega arith
          go false false = held.second

      sync-ok : body_ok desktop_fields 1 1 sync ≡ true
      sync-ok = marked_ok_lem desktop_fields hook sync _ _ sync_is 1 1 held.first second_fits held.fields

      go : (t : Bool) → body_ok desktop_fields 1 1 (pick t (prepared_of true slot) (store_of desktop_fields 2 flags s 7 sync)) ≡ true
      go true = prepared_ok desktop_fields slot (omega (arith, desktop_room, long)) 1 1 (placed 29 31)
      go false = stored_ok desktop_fields flags s 7 sync (placed 29 31) e (omega arith) inside sync_room 1 1 sync-ok
