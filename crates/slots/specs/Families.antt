-- The two families of records that are listed by ids, and the sizes of the index. Assumes nothing.
use Rattle.std.specs.Prelude.{ℕ, ◌+◌, ◌*◌, Bool, eqb, leb, ltb}
use Rattle.wire.specs.Tests.{both}
use Rattle.places.specs.declared.Family.{Family}
use Rattle.places.specs.declared.Family.TheVariants.{Windows, Notifications}
use Rattle.places.specs.Holder.{same_family}
use Rattle.places.specs.Sizes.{holders_length}

-- where the slots of a family begin, and how many there are
abbrev pub start : Family → ℕ
start Windows = 0
start Notifications = 32

abbrev pub capacity : Family → ℕ
capacity Windows = 32
capacity Notifications = 16

-- slot i is one of a family's
abbrev pub is_within : Family → ℕ → Bool
is_within f i = both (leb (start f) i) (ltb i (start f + capacity f))

-- the highest second id: a window has none, and 0 stands for it
abbrev pub highest : Family → ℕ
highest Windows = 0
highest Notifications = 0xFFFFFFFF

-- the record x, y of family g is a, b of f
abbrev pub same_record : Family → ℕ → ℕ → Family → ℕ → ℕ → Bool
same_record f a b g x y = both (same_family g f) (both (eqb x a) (eqb y b))

-- bytes of a slot, of all slots, and of the index
abbrev pub slot_length : ℕ
slot_length = 9

abbrev pub slots_length : ℕ
slots_length = 432

abbrev pub index_length : ℕ
index_length = 589

-- where slot i begins
abbrev pub slot_at : ℕ → ℕ
slot_at i = holders_length + slot_length * i
