-- What a reader may rely on of any accepted order, whatever the table: stated apart from how `after` is written. Assumes nothing.
use Rattle.std.specs.Prelude.{ℕ, ◌≡◌, Bool, true, false, List, []}
use Rattle.std.proofs.Math.Option.{Option, none, some}
use Rattle.order.specs.Judge.{Judged, judge_of}
use Rattle.places.specs.declared.Family.{Family}
use Rattle.places.specs.Sharing.{is_one}
use Rattle.places.specs.Holder.{Holder, cell, icon, same_holder}
use Rattle.slots.specs.Families.{same_record}
use Rattle.index.specs.declared.RecordOrder.{RecordOrder}
use Rattle.index.specs.Orders.{on_judged, is_delete, brings_icon, brings_cached, clears_overlay, cell_at, sent_once, pointer_of, holders_of}
use Rattle.index.specs.Index.{index_after}
use Rattle.index.specs.Promises.{touched}
use Rattle.body.specs.Bodies.{SetsFlagged}
use Rattle.cache.specs.Cells.{carried_picture}
use Rattle.table.specs.Table.{Table, number, field_rows, fields_at, fields_before, after}

-- the order for a record that an order's bytes are
abbrev pub record_order : Judged → Option RecordOrder
record_order j = on_judged j some (λ flags. none) (λ n. none)

-- an accepted order that makes or updates a record
pub record Updates (t : Table) (s : List ℕ) (o : RecordOrder) : Type 0 where
  pub judged : record_order (judge_of s) ≡ some o
  pub accepted : number t s ≡ 0
  pub stays : is_delete o.flags ≡ false

-- exactly the flagged fields are set, each to the carried value; no other record and no desktop state changes. An icon's holders
-- show its picture, a cached icon's pointer shows what its cell shows, an overlay icon set to none nothing; no other window and no other notification icon shows
-- another picture, and no cell but the one that an icon names
pub record Updated (t : Table) (s : List ℕ) (o : RecordOrder) : Type 0 where
  pub listed : (after t s).index.listed o.family o.window.id o.notify.id ≡ true
  pub fields : SetsFlagged (field_rows o.family) o.flags s (fields_at o.family) (fields_before t o) ((after t s).fields o.family o.window.id o.notify.id)
  pub others : (g : Family) (x y : ℕ) → same_record o.family o.window.id o.notify.id g x y ≡ false
      → ((after t s).fields g x y ≡ t.fields g x y) × ((after t s).index.listed g x y ≡ t.index.listed g x y)
  pub desktop : (after t s).desktop ≡ t.desktop
  pub brought : brings_icon o.flags ≡ true → (h : Holder) → is_one same_holder (holders_of s o) h ≡ true → (after t s).shown h ≡ some (carried_picture s o.icon)
  pub cached : brings_icon o.flags ≡ false → brings_cached o.flags ≡ true → (after t s).shown (pointer_of o) ≡ t.shown (cell (cell_at s o.icon))
  pub cleared : brings_icon o.flags ≡ false → brings_cached o.flags ≡ false → clears_overlay o.flags ≡ true → (after t s).shown (pointer_of o) ≡ none
  pub pictures : (h : Holder) → is_one same_holder (touched s o) h ≡ false → (after t s).shown h ≡ t.shown h
  pub icons : (g : Family) (x y w : ℕ) → same_record o.family o.window.id o.notify.id g x y ≡ false → (after t s).shown (icon g x y w) ≡ t.shown (icon g x y w)

unfoldable pub UpdatesKeep : Type 0
UpdatesKeep = (t : Table) (s : List ℕ) (o : RecordOrder) → Updates t s o → Updated t s o

-- request No. 14, an icon with cache id FF: its window or notification icon shows the picture and shares it with no other holder; every
-- other holder shows what it did, each cell and each icon of another record among them, and shares what it did
pub record OnceOnly (t : Table) (s : List ℕ) (o : RecordOrder) : Type 0 where
  pub own : (after t s).shown (pointer_of o) ≡ some (carried_picture s o.icon)
  pub alone : (h : Holder) → same_holder h (pointer_of o) ≡ false → (after t s).index.sharing.shares h (pointer_of o) ≡ false
  pub others : (h : Holder) → same_holder h (pointer_of o) ≡ false → (after t s).shown h ≡ t.shown h
  pub sharing : (h k : Holder) → same_holder h (pointer_of o) ≡ false → same_holder k (pointer_of o) ≡ false
      → (after t s).index.sharing.shares h k ≡ t.index.sharing.shares h k
  pub cells : (c : ℕ) → (after t s).shown (cell c) ≡ t.shown (cell c)

unfoldable pub OnceKeeps : Type 0
OnceKeeps = (t : Table) (s : List ℕ) (o : RecordOrder) → Updates t s o → brings_icon o.flags ≡ true → sent_once s o.icon ≡ true → OnceOnly t s o

-- judging a run of orders needs the index alone: the index after an order is decided by the index before it
unfoldable pub IndexAlone : Type 0
IndexAlone = (t : Table) (s : List ℕ) → (after t s).index ≡ index_after t.index s
