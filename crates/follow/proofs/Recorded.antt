-- A record's slot and the desktop's followed: they hold what the table says after an order. Assumes nothing.
use mathlib.Core.Path.{◌≡◌, refl, sym, ap, subst, ◌∙◌}
use mathlib.Core.Bool.{Bool, true, false, not}
use mathlib.Core.List.{List}
use Prim.Native.Nat.{ℕ, ◌+◌, ◌≤◌}
use native.Mathlib.Omega.{arith}
use lib.ListN.{length}
use Rattle.wire.specs.Tests.{pick, both, has}
use Rattle.wire.specs.Parts.{slice, splice}
use Rattle.wire.proofs.Parts.{length_slice, length_splice, slice_splice, slice_splice_after}
use Rattle.protocol.specs.Flags.{desktop_none}
use Rattle.places.specs.declared.Family.{Family}
use Rattle.places.specs.Counts.{on_found}
use Rattle.places.proofs.Named.{same_record_lem}
use Rattle.slots.specs.Families.{same_record}
use Rattle.index.specs.declared.RecordOrder.{RecordOrder}
use Rattle.index.specs.declared.Change.{Change}
use Rattle.index.specs.Orders.{is_new, is_delete}
use Rattle.index.specs.Index as index
use Rattle.index.specs.Memory.{index_of}
use Rattle.index.specs.Plans.{change_of}
use Rattle.index.proofs.Numbered.{Planned}
use Rattle.body.specs.Bodies.{Body, desktop_fields, fields_of, body_of, body_ok, set_flagged, empty_fields, empty_body}
use Rattle.body.specs.Stores.{room_all, EndsWell}
use Rattle.table.specs.Table.{Table, field_rows, fields_at, fields_before, record_fields, fields_after, change_record, desktop_after, change_desktop}
use Rattle.table.specs.Changes.{slot_after, desktop_slot, Able}
use Rattle.table.proofs.Bodied.{slot_length_lem, slot_fields, slot_ok_lem, desktop_body, desktop_ok}
use Rattle.follow.specs.Follow.{slot_room, record_room, held_slot, is_for, slot_followed, RecordHeld}
use Rattle.follow.proofs.Rooms.{family_fits}
use Rattle.wire.proofs.Tests.{never}

-- ---- the slot in the memory

module _ (f : Family) (m x : List ℕ) (long : length m ≡ record_room f) (size : length x ≡ slot_room f) where
  room : 0 + length x ≤ length m
  room = omega arith

  length_put : length (splice m 0 x) ≡ record_room f
  length_put = length_splice m 0 x room ∙ long

  slot_put : held_slot f (splice m 0 x) ≡ x
  slot_put = ap (slice (splice m 0 x) 0) (sym size) ∙ slice_splice m 0 x room

  origins_put : slice (splice m 0 x) (slot_room f) 128 ≡ slice m (slot_room f) 128
  origins_put = slice_splice_after m 0 x room (slot_room f) 128 (omega arith)

module _ (f : Family) (a b : ℕ) (s : List ℕ) (c : Change) (m : List ℕ) (long : length m ≡ record_room f) (able : Able s c) where
  held_length : length (held_slot f m) ≡ slot_room f
  held_length = length_slice m 0 (slot_room f) (omega arith)

  -- a change for the record is of its family
  held_fits : is_for f a b c ≡ true → 2 + room_all (field_rows c.family) ≤ length (held_slot f m)
  held_fits k =
      subst (λ (g : Family). 2 + room_all (field_rows g) ≤ length (held_slot f m)) (same_record_lem f c.family a c.window.id b c.notify.id k).0
      (omega (arith, family_fits f, held_length))

  now_length : is_for f a b c ≡ true → length (slot_after s c (held_slot f m)) ≡ slot_room f
  now_length k = slot_length_lem s c (held_slot f m) (held_fits k) able ∙ held_length

  pub slot_followed_length : length (slot_followed f a b s c m) ≡ record_room f
  unfolding slot_followed
  slot_followed_length = go (is_for f a b c) c.deleted refl
    where
      go : (t d : Bool) → is_for f a b c ≡ t → length (pick (both t (not d)) (splice m 0 (slot_after s c (held_slot f m))) m) ≡ record_room f
      go true true k = long
      go true false k = length_put f m (slot_after s c (held_slot f m)) long (now_length k)
      go false d k = long

  pub slot_followed_origins : slice (slot_followed f a b s c m) (slot_room f) 128 ≡ slice m (slot_room f) 128
  unfolding slot_followed
  slot_followed_origins = go (is_for f a b c) c.deleted refl
    where
      go : (t d : Bool) → is_for f a b c ≡ t → slice (pick (both t (not d)) (splice m 0 (slot_after s c (held_slot f m))) m) (slot_room f) 128 ≡ slice m (slot_room f) 128
      go true true k = refl
      go true false k = origins_put f m (slot_after s c (held_slot f m)) long (now_length k)
      go false d k = refl

  slot_followed_lem : held_slot f (slot_followed f a b s c m) ≡ pick (both (is_for f a b c) (not c.deleted)) (slot_after s c (held_slot f m)) (held_slot f m)
  unfolding slot_followed
  slot_followed_lem = go (is_for f a b c) c.deleted refl
    where
      go : (t d : Bool) → is_for f a b c ≡ t
          → held_slot f (pick (both t (not d)) (splice m 0 (slot_after s c (held_slot f m))) m) ≡ pick (both t (not d)) (slot_after s c (held_slot f m)) (held_slot f m)
      go true true k = refl
      go true false k = slot_put f m (slot_after s c (held_slot f m)) long (now_length k)
      go false d k = refl

-- ---- a slot that holds a record, where it is listed

record Has (t : Table) (f : Family) (a b : ℕ) (slot : List ℕ) : Type 0 where
  pub fields : t.index.listed f a b ≡ true → fields_of (field_rows f) 2 slot ≡ t.fields f a b
  pub ok : t.index.listed f a b ≡ true → body_ok (field_rows f) 0 0 slot ≡ true

has_held : (t : Table) (f : Family) (a b : ℕ) (m x : List ℕ) → held_slot f m ≡ x → Has t f a b x → RecordHeld t f a b m
has_held t f a b m x e h =
    record {
      fields = λ l. ap (fields_of (field_rows f) 2) e ∙ h.fields l;
      ok = λ l. ap (body_ok (field_rows f) 0 0) e ∙ h.ok l;
    }

-- a table that lists it no more, or says of it what another does
gone : (t : Table) (f : Family) (a b : ℕ) (slot : List ℕ) → t.index.listed f a b ≡ false → Has t f a b slot
gone t f a b slot e = record { fields = λ l. never (sym e ∙ l); ok = λ l. never (sym e ∙ l) }

stays : (t u : Table) (f : Family) (a b : ℕ) (slot : List ℕ) → u.index.listed f a b ≡ t.index.listed f a b → u.fields f a b ≡ t.fields f a b
    → Has t f a b slot → Has u f a b slot
stays t u f a b slot e k h = record { fields = λ l. h.fields (sym e ∙ l) ∙ sym k; ok = λ l. h.ok (sym e ∙ l) }

-- ---- the change of a record

module _ (t : Table) (d s : List ℕ) (o : RecordOrder) (i place : ℕ) (same : t.index ≡ index_of d) (p : Planned d s o i place)
    (able : Able s (change_of s o i place)) where
  abbrev c : Change
  c = change_of s o i place

  abbrev u : Table
  u = change_record t s o

  abbrev is_it : Family → ℕ → ℕ → Bool
  is_it = same_record o.family o.window.id o.notify.id

  listed_deleted : is_delete o.flags ≡ true → (f : Family) (a b : ℕ) → u.index.listed f a b ≡ pick (is_it f a b) false (t.index.listed f a b)
  unfolding change_record index.change_record
  listed_deleted e f a b = rw e

  listed_kept : is_delete o.flags ≡ false → (f : Family) (a b : ℕ) → u.index.listed f a b ≡ pick (is_it f a b) true (t.index.listed f a b)
  unfolding change_record index.change_record
  listed_kept e f a b = rw e

  fields_other : (f : Family) (a b : ℕ) → is_it f a b ≡ false → u.fields f a b ≡ t.fields f a b
  unfolding change_record fields_after
  fields_other f a b e = rw e

  fields_own : is_delete o.flags ≡ false → (f : Family) (a b : ℕ) → is_it f a b ≡ true
      → u.fields f a b ≡ set_flagged (field_rows o.family) o.flags s (fields_at o.family) (fields_before t o)
  unfolding change_record fields_after record_fields
  fields_own e f a b k = rw (k, e)

  -- a record that is not new is listed
  old_listed : is_new o.family o.flags ≡ false → t.index.listed o.family o.window.id o.notify.id ≡ true
  unfolding index_of
  old_listed e =
      ap (λ (d : index.Index). d.listed o.family o.window.id o.notify.id) same
      ∙ ap (λ w. on_found w false (λ i. true)) (p.placed.old e)

  module _ (slot : List ℕ) (size : 2 + room_all (field_rows o.family) ≤ length slot) (h : Has t o.family o.window.id o.notify.id slot) where
    before : pick (is_new o.family o.flags) (empty_fields (field_rows o.family)) (fields_of (field_rows o.family) 2 slot) ≡ fields_before t o
    before = go (is_new o.family o.flags) refl
      where
        go : (n : Bool) → is_new o.family o.flags ≡ n
            → pick n (empty_fields (field_rows o.family)) (fields_of (field_rows o.family) 2 slot)
            ≡ pick n (empty_fields (field_rows o.family)) (t.fields o.family o.window.id o.notify.id)
        go true e = refl
        go false e = h.fields (old_listed e)

    own-fields : fields_of (field_rows o.family) 2 (slot_after s c slot) ≡ set_flagged (field_rows o.family) o.flags s (fields_at o.family) (fields_before t o)
    own-fields = slot_fields s c slot size able ∙ ap (set_flagged (field_rows o.family) o.flags s (fields_at o.family)) before

    own-ok : body_ok (field_rows o.family) 0 0 (slot_after s c slot) ≡ true
    own-ok = slot_ok_lem s c slot size able (λ e. h.ok (old_listed e))

  changed_has : (f : Family) (a b : ℕ) (slot : List ℕ) → (is_it f a b ≡ true → 2 + room_all (field_rows o.family) ≤ length slot) → Has t f a b slot
      → Has u f a b (pick (both (is_for f a b c) (not c.deleted)) (slot_after s c slot) slot)
  changed_has f a b slot size h = go (is_it f a b) (is_delete o.flags) refl refl
    where
      go : (k e : Bool) → is_it f a b ≡ k → is_delete o.flags ≡ e → Has u f a b (pick (both k (not e)) (slot_after s c slot) slot)
      go true true k e = gone u f a b slot (listed_deleted e f a b ∙ rw k)
      go false true k e = stays t u f a b slot (listed_deleted e f a b ∙ rw k) (fields_other f a b k) h
      go false false k e = stays t u f a b slot (listed_kept e f a b ∙ rw k) (fields_other f a b k) h
      go true false k e =
          let r = same_record_lem f o.family a o.window.id b o.notify.id k in
          let own : Has t o.family o.window.id o.notify.id slot = rw (r.0, r.1, r.2) at h in
          record {
            fields = λ l. ap (λ (g : Family). fields_of (field_rows g) 2 (slot_after s c slot)) r.0 ∙ own-fields slot (size k) own ∙ sym (fields_own e f a b k);
            ok = λ l. ap (λ (g : Family). body_ok (field_rows g) 0 0 (slot_after s c slot)) r.0 ∙ own-ok slot (size k) own;
          }

  pub record_then : (f : Family) (a b : ℕ) (m n : List ℕ) → length m ≡ record_room f → held_slot f n ≡ held_slot f (slot_followed f a b s c m) → RecordHeld t f a b m → RecordHeld u f a b n
  record_then f a b m n long e h =
      has_held u f a b n (pick (both (is_for f a b c) (not c.deleted)) (slot_after s c (held_slot f m)) (held_slot f m))
      (e ∙ slot_followed_lem f a b s c m long able)
      (changed_has f a b (held_slot f m) (held_fits f a b s c m long able) (record { fields = h.fields; ok = h.ok }))

-- ---- the change of the desktop state

module _ (t : Table) (s : List ℕ) (flags : ℕ) where
  abbrev desk : Table
  desk = change_desktop t s flags

  none_listed : has flags desktop_none ≡ true → (f : Family) (a b : ℕ) → desk.index.listed f a b ≡ false
  unfolding change_desktop index.change_desktop
  none_listed e f a b = rw e

  some_listed : has flags desktop_none ≡ false → (f : Family) (a b : ℕ) → desk.index.listed f a b ≡ t.index.listed f a b
  unfolding change_desktop index.change_desktop
  some_listed e f a b = rw e

  some_fields : has flags desktop_none ≡ false → (f : Family) (a b : ℕ) → desk.fields f a b ≡ t.fields f a b
  unfolding change_desktop
  some_fields e f a b = rw e

  -- none leaves no record
  pub record_stays : (f : Family) (a b : ℕ) (m : List ℕ) → RecordHeld t f a b m → RecordHeld desk f a b m
  record_stays f a b m h = has_held desk f a b m (held_slot f m) refl (go (has flags desktop_none) refl)
    where
      was : Has t f a b (held_slot f m)
      was = record { fields = h.fields; ok = h.ok }

      go : (n : Bool) → has flags desktop_none ≡ n → Has desk f a b (held_slot f m)
      go true e = gone desk f a b (held_slot f m) (none_listed e f a b)
      go false e = stays t desk f a b (held_slot f m) (some_listed e f a b) (some_fields e f a b) was

  pub desktop_then : (m : List ℕ) → length m ≡ 916 → 7 ≤ length s → EndsWell desktop_fields flags s 7 → body_of desktop_fields m ≡ t.desktop → body_ok desktop_fields 1 1 m ≡ true
      → (body_of desktop_fields (desktop_slot flags s m) ≡ desk.desktop) × (body_ok desktop_fields 1 1 (desktop_slot flags s m) ≡ true)
  unfolding change_desktop
  desktop_then m long within e is fine =
      (desktop_body flags s m long within e ∙ ap (λ (b : Body). pick (has flags desktop_none) (empty_body desktop_fields) (desktop_after flags s b)) is, desktop_ok flags s m long within e fine)
