-- Orders for records of either family. Assumes nothing.
use Rattle.std.specs.Prelude.{ℕ, ◌+◌, ◌*◌, Bool, not, List, [], ◌∷◌, eqb, Ok, Err}
use Rattle.wire.specs.Tests.{pick, both, has}
use Rattle.wire.specs.Numbers.{num_at}
use Rattle.order.specs.Judge.{Judged}
use Rattle.order.specs.declared.Order.TheVariants.{Window, Notification, Desktop}
use Rattle.protocol.specs.Refusals.{number_of}
use Rattle.protocol.specs.Flags.{flag_big_icon, flag_cached_icon, flag_deleted, flag_icon, flag_new, flag_overlay_none, flags_icon, flags_overlay}
use Rattle.places.specs.declared.Family.{Family}
use Rattle.places.specs.declared.Family.TheVariants.{Windows, Notifications}
use Rattle.places.specs.Holder.{Holder, cell, icon}
use Rattle.index.specs.declared.RecordOrder.{RecordOrder}

-- an order for a record, one for the desktop with its flags, or the number of a refusal
abbrev pub on_judged : {A : Type 0} → Judged → (RecordOrder → A) → (ℕ → A) → (ℕ → A) → A
on_judged (Ok (Window o)) change desktop refused =
    change (record { family = Windows; window = o.window; notify = record { id = 0 }; flags = o.flags; icon = o.icon })
on_judged (Ok (Notification o)) change desktop refused =
    change (record { family = Notifications; window = o.window; notify = o.notify; flags = o.flags; icon = o.icon })
on_judged (Ok (Desktop o)) change desktop refused = desktop o.flags
on_judged (Err f) change desktop refused = refused (number_of f.refusal)

-- a new record is asked for; on window icon orders the new bit is ignored
abbrev pub is_new : Family → ℕ → Bool
is_new Windows flags = both (has flags flag_new) (not (has flags flags_icon))
is_new Notifications flags = has flags flag_new

abbrev pub is_delete : ℕ → Bool
is_delete flags = has flags flag_deleted

abbrev pub brings_icon : ℕ → Bool
brings_icon flags = has flags flag_icon

abbrev pub brings_cached : ℕ → Bool
brings_cached flags = has flags flag_cached_icon

-- the cell that an icon or cached icon names: entry 2, cache id 1
unfoldable pub cell_at : List ℕ → ℕ → ℕ
cell_at s at = 6 * num_at 1 s (at + 2) + num_at 2 s at

-- request No. 14: with cache id FF an icon names no cell
abbrev pub sent_once : List ℕ → ℕ → Bool
sent_once s at = eqb (num_at 1 s (at + 2)) 0xFF

-- request No. 12: the overlay icon is set to none
abbrev pub clears_overlay : ℕ → Bool
clears_overlay flags = has flags flag_overlay_none

-- which of a record's icons is set: a window's big one, its overlay icon, or else its small or only one
abbrev pub which_of : ℕ → ℕ
which_of flags = pick (has flags flag_big_icon) 1 (pick (has flags flags_overlay) 2 0)

abbrev pub pointer_of : RecordOrder → Holder
pointer_of o = icon o.family o.window.id o.notify.id (which_of o.flags)

-- the holders of the picture that an icon brings: its cell and its pointer, or its pointer alone
abbrev pub holders_of : List ℕ → RecordOrder → List Holder
holders_of s o = pick (sent_once s o.icon) (pointer_of o ∷ []) (cell (cell_at s o.icon) ∷ pointer_of o ∷ [])

-- a window's order with these flags that has no field, as one for a record
abbrev pub record_of : ℕ → List ℕ → RecordOrder
record_of flags s = record { family = Windows; window = record { id = num_at 4 s 7 }; notify = record { id = 0 }; flags = flags; icon = 11 }
