-- Document 01 on "the same table": ids, fields, pictures shown, who shares a picture and the desktop state decide it; slots, places and
-- unused bytes do not count. Assumes nothing.
use Rattle.std.specs.Prelude.{ℕ, ◌≡◌, true, List}
use Rattle.places.specs.declared.Family.{Family}
use Rattle.places.specs.Memory.{places_of}
use Rattle.places.specs.Holder.{Holder}
use Rattle.slots.specs.Sound.{sound_index}
use Rattle.table.specs.Table.{Table}
use Rattle.table.specs.Memory.{decode}

-- what a lookup can tell of two tables is the same
pub record Alike (t u : Table) : Type 0 where
  pub listed : (f : Family) (a b : ℕ) → t.index.listed f a b ≡ u.index.listed f a b
  pub shares : (g k : Holder) → t.index.sharing.shares g k ≡ u.index.sharing.shares g k
  pub fields : (f : Family) (a b : ℕ) → t.fields f a b ≡ u.fields f a b
  pub shown : (h : Holder) → t.shown h ≡ u.shown h
  pub desktop : t.desktop ≡ u.desktop

-- memories with as many places whose tables are alike describe one table: how many records are listed and how many places are used
-- follows from the ids and from who shares
unfoldable pub SameTables : Type 0
SameTables =
    (x y b c : List ℕ) (p q : List (List ℕ)) → sound_index x ≡ true → sound_index y ≡ true → places_of x ≡ places_of y
    → Alike (decode x b p) (decode y c q) → decode x b p ≡ decode y c q
