-- The holders of a table by their ids, and the numbers under which its memory keeps them. Assumes nothing.
use Rattle.std.specs.Prelude.{ℕ, ◌+◌, ◌*◌, Bool, true, false, List, [], ◌∷◌, eqb, ltb, Option, None}
use Rattle.wire.specs.Tests.{pick, both}
use Rattle.places.specs.declared.Family.{Family}
use Rattle.places.specs.declared.Family.TheVariants.{Windows, Notifications}
use Rattle.places.specs.Counts.{on_found}
use Rattle.places.specs.Sizes.{cell_count, icons_each, holder_count}

pub data Holder : Type 0 where
  cell : ℕ → Holder
  -- the ids of a record, and which of its icons: 0 small or its own, 1 big, 2 overlay
  icon : Family → ℕ → ℕ → ℕ → Holder

abbrev pub same_family : Family → Family → Bool
same_family Windows Windows = true
same_family Windows Notifications = false
same_family Notifications Windows = false
same_family Notifications Notifications = true

abbrev pub same_holder : Holder → Holder → Bool
same_holder (cell c) (cell d) = eqb c d
same_holder (cell c) (icon g x y v) = false
same_holder (icon f a b w) (cell d) = false
same_holder (icon f a b w) (icon g x y v) = both (same_family f g) (both (eqb a x) (both (eqb b y) (eqb w v)))

-- the number of icon w of the record in slot i
abbrev pub icon_number : ℕ → ℕ → ℕ
icon_number i w = cell_count + icons_each * i + w

-- by the slot in which a record is listed; a holder that is not kept has a number that is no holder's
unfoldable pub number_of : (Family → ℕ → ℕ → Option ℕ) → Holder → ℕ
number_of slot (cell c) = pick (ltb c cell_count) c holder_count
number_of slot (icon f a b w) = on_found (slot f a b) holder_count (λ i. pick (ltb w icons_each) (icon_number i w) holder_count)

abbrev pub is_cell_holder : Holder → Bool
is_cell_holder (cell c) = ltb c cell_count
is_cell_holder (icon f a b w) = false

-- the icons of a record
abbrev pub icons_of : Family → ℕ → ℕ → List Holder
icons_of f a b = icon f a b 0 ∷ icon f a b 1 ∷ icon f a b 2 ∷ []

-- no record is listed
abbrev pub no_slot : Family → ℕ → ℕ → Option ℕ
no_slot f a b = None
