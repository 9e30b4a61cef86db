-- What the change of an index promises, for any index. Assumes nothing.
use Rattle.std.specs.Prelude.{ℕ, ◌≡◌, false, List, [], ◌∷◌}
use Rattle.wire.specs.Tests.{pick}
use Rattle.places.specs.declared.Family.{Family}
use Rattle.places.specs.Sharing.{is_one}
use Rattle.places.specs.Holder.{Holder, icon, same_holder, icons_of}
use Rattle.slots.specs.Families.{same_record}
use Rattle.index.specs.declared.RecordOrder.{RecordOrder}
use Rattle.index.specs.Orders.{is_delete, brings_icon, brings_cached, clears_overlay, pointer_of, holders_of}
use Rattle.index.specs.Index.{Index, change_record}

-- the holders whose place an order for a record sets or lets go
unfoldable pub touched : List ℕ → RecordOrder → List Holder
touched s o =
    pick (is_delete o.flags) (icons_of o.family o.window.id o.notify.id)
    (pick (brings_icon o.flags) (holders_of s o)
    (pick (brings_cached o.flags) (pointer_of o ∷ [])
    (pick (clears_overlay o.flags) (pointer_of o ∷ [])
    [])))

-- all others share as before
abbrev pub OthersKeep : Type 0
OthersKeep =
    (d : Index) (s : List ℕ) (o : RecordOrder) (g k : Holder) → is_one same_holder (touched s o) g ≡ false → is_one same_holder (touched s o) k ≡ false
    → (change_record d s o).sharing.shares g k ≡ d.sharing.shares g k

-- the icons of two other records share as before, whatever the order brings; and other records are listed as before
pub record RecordsKeep : Type 0 where
  pub shares : (d : Index) (s : List ℕ) (o : RecordOrder) (f g : Family) (a b v x y w : ℕ) → same_record o.family o.window.id o.notify.id f a b ≡ false
      → same_record o.family o.window.id o.notify.id g x y ≡ false
      → (change_record d s o).sharing.shares (icon f a b v) (icon g x y w) ≡ d.sharing.shares (icon f a b v) (icon g x y w)
  pub listed : (d : Index) (s : List ℕ) (o : RecordOrder) (f : Family) (a b : ℕ) → same_record o.family o.window.id o.notify.id f a b ≡ false
      → (change_record d s o).listed f a b ≡ d.listed f a b
