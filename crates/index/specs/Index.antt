-- The index of a table without slots and places: which records are listed and how many, and which holders of pictures share a
-- place. The numbers 9, 10, 11 and 17 on it, and how an accepted order changes it. Assumes nothing.
use Rattle.std.specs.Prelude.{ℕ, ◌+◌, ◌-◌, Bool, true, false, not, List, eqb, leb}
use Rattle.wire.specs.Tests.{pick, both, has}
use Rattle.order.specs.Judge.{judge_of}
use Rattle.protocol.specs.Flags.{desktop_none}
use Rattle.places.specs.declared.Family.{Family}
use Rattle.places.specs.Sharing.{Sharing, drop, drop_all, join, full, taken, cells_only}
use Rattle.places.specs.Holder.{Holder, cell, same_family, same_holder, is_cell_holder, icons_of}
use Rattle.slots.specs.Families.{capacity, same_record}
use Rattle.index.specs.declared.RecordOrder.{RecordOrder}
use Rattle.index.specs.Orders.{on_judged, is_new, is_delete, brings_icon, brings_cached, clears_overlay, cell_at, pointer_of, holders_of}

pub record Index : Type 0 where
  pub listed : Family → ℕ → ℕ → Bool
  pub many : Family → ℕ
  pub sharing : Sharing Holder

abbrev pub lists : Index → RecordOrder → Bool
lists d o = d.listed o.family o.window.id o.notify.id

-- ---- numbers

-- 9: a new record that is listed, any other that is not
unfoldable pub not_there : Index → RecordOrder → Bool
not_there d o = pick (is_new o.family o.flags) (lists d o) (not (lists d o))

-- 10: a new record with no room
unfoldable pub no_room : Index → RecordOrder → Bool
no_room d o = both (is_new o.family o.flags) (leb (capacity o.family) (d.many o.family))

-- 11: a cached icon whose cell points at nothing
unfoldable pub no_picture : Index → List ℕ → RecordOrder → Bool
no_picture d s o = both (brings_cached o.flags) (not (d.sharing.shares (cell (cell_at s o.icon)) (cell (cell_at s o.icon))))

-- 17: an icon, where every place is still pointed at once its holders have let go
unfoldable pub no_place : Index → List ℕ → RecordOrder → Bool
no_place d s o = both (brings_icon o.flags) (full same_holder (holders_of s o) d.sharing)

unfoldable pub record_number : Index → List ℕ → RecordOrder → ℕ
record_number d s o =
    pick (not_there d o) 9
    (pick (no_room d o) 10
    (pick (no_picture d s o) 11
    (pick (no_place d s o) 17
    0)))

-- the first of the numbers 2 to 11 and 17 that applies
unfoldable pub number_in : Index → List ℕ → ℕ
number_in d s = on_judged (judge_of s) (record_number d s) (λ flags. 0) (λ number. number)

-- ---- the change of an accepted order

-- an icon takes a place, a cached icon joins its cell, an overlay icon that is set to none lets its place go
unfoldable pub pictured : List ℕ → RecordOrder → Sharing Holder → Sharing Holder
pictured s o t =
    pick (brings_icon o.flags) (taken same_holder (holders_of s o) t)
    (pick (brings_cached o.flags) (join same_holder (pointer_of o) (cell (cell_at s o.icon)) (drop same_holder (pointer_of o) t))
    (pick (clears_overlay o.flags) (drop same_holder (pointer_of o) t)
    t))

abbrev pub without : Index → RecordOrder → Index
without d o =
    record {
      listed = λ g x y. pick (same_record o.family o.window.id o.notify.id g x y) false (d.listed g x y);
      many = λ g. pick (same_family g o.family) (d.many g - 1) (d.many g);
      sharing = drop_all same_holder (icons_of o.family o.window.id o.notify.id) d.sharing;
    }

abbrev pub with_record : Index → List ℕ → RecordOrder → Index
with_record d s o =
    record {
      listed = λ g x y. pick (same_record o.family o.window.id o.notify.id g x y) true (d.listed g x y);
      many = λ g. pick (both (is_new o.family o.flags) (same_family g o.family)) (d.many g + 1) (d.many g);
      sharing = pictured s o d.sharing;
    }

unfoldable pub change_record : Index → List ℕ → RecordOrder → Index
change_record d s o = pick (is_delete o.flags) (without d o) (with_record d s o)

-- desktop none: no record is listed, and only the cells keep their places
unfoldable pub change_desktop : Index → ℕ → Index
change_desktop d flags =
    pick (has flags desktop_none)
    (record { listed = λ f a b. false; many = λ f. 0; sharing = cells_only is_cell_holder cell d.sharing })
    d

-- nothing listed, nothing pointed at, and this many places
unfoldable pub empty_index : ℕ → Index
empty_index n =
    record {
      listed = λ f a b. false;
      many = λ f. 0;
      sharing = record { shares = λ g k. false; users = λ g. 0; used = 0; places = n };
    }

-- a refused order changes nothing
unfoldable pub index_after : Index → List ℕ → Index
index_after d s = pick (eqb (number_in d s) 0) (on_judged (judge_of s) (change_record d s) (change_desktop d) (λ number. d)) d
