-- Orders that say one thing: a window's delete, its icon or cached icon, the stacking list with the active window. Assumes nothing.
use Rattle.std.specs.Prelude.{ℕ, ◌≡◌, Bool, List, [], ◌∷◌, eqb, leb, length, Ok}
use Rattle.std.specs.Int.Bits.{bit_and}
use Rattle.wire.specs.Tests.{both, all}
use Rattle.wire.specs.Numbers.{num_at}
use Rattle.protocol.specs.Flags.{flag_cached_icon, flag_deleted, flag_icon, flag_new, flags_overlay}
use Rattle.order.specs.declared.Order.TheVariants.{Window}
use Rattle.order.specs.Judge.{Judged, number_of, judge_of}

-- their flags, whole
abbrev pub delete_flags : ℕ
delete_flags = 0x21000000

abbrev pub cached_flags : ℕ
cached_flags = 0x81000000

abbrev pub cached_big_flags : ℕ
cached_big_flags = 0x81002000

abbrev pub icon_flags : ℕ
icon_flags = 0x41000000

abbrev pub icon_big_flags : ℕ
icon_big_flags = 0x41002000

abbrev pub list_flags : ℕ
list_flags = 0x04000030

-- an order that is not refused, with these flags
unfoldable pub good_with : ℕ → List ℕ → Bool
good_with flags s = both (eqb (num_at 4 s 3) flags) (eqb (number_of (judge_of s)) 0)

-- what a window's order with these flags that has no field says
abbrev pub window_of : ℕ → List ℕ → Judged
window_of flags s = Ok (Window (record { window = record { id = num_at 4 s 7 }; flags = flags; icon = 11 }))

-- a cached icon and nothing else is brought
pub record BringsCached (flags : ℕ) : Type 0 where
  pub icon : bit_and flags flag_icon ≡ 0
  pub cached : bit_and flags flag_cached_icon ≡ 0 → ⊥
  pub deleted : bit_and flags flag_deleted ≡ 0
  pub new : bit_and flags flag_new ≡ 0

-- an icon of the window and nothing else is brought
pub record BringsIcon (flags : ℕ) : Type 0 where
  pub icon : bit_and flags flag_icon ≡ 0 → ⊥
  pub cached : bit_and flags flag_cached_icon ≡ 0
  pub deleted : bit_and flags flag_deleted ≡ 0
  pub new : bit_and flags flag_new ≡ 0
  pub overlay : bit_and flags flags_overlay ≡ 0

-- ---- for the private function

-- the order begins with the type byte and its own size, and index end lies within it
unfoldable pub framed_to : List ℕ → ℕ → Bool
framed_to s end = all (eqb (num_at 1 s 0) 0x2E ∷ eqb (num_at 2 s 1) (length s) ∷ leb end (length s) ∷ [])
