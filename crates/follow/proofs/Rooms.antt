-- The room for a slot of a family: each slot of the family has it, and its fields fit. Assumes nothing.
use mathlib.Core.Path.{◌≡◌, sym, ap}
use mathlib.Core.List.{List}
use Prim.Native.Nat.{ℕ, ◌+◌, ◌≤◌}
use native.Mathlib.Omega.{arith}
use lib.ListN.{length}
use Rattle.wire.specs.Parts.{slice}
use Rattle.places.specs.declared.Family.{Family}
use Rattle.places.specs.declared.Family.TheVariants.{Windows, Notifications}
use Rattle.slots.proofs.Soundness.{Within, within_slots}
use Rattle.body.specs.Bodies.{slot_length, slot_start, slot_of}
use Rattle.body.specs.Stores.{room_all}
use Rattle.body.proofs.Slots.{window_length_lem, other_length, slot_within}
use Rattle.table.specs.Table.{field_rows}
use Rattle.table.proofs.Bodied.{family_room}
use Rattle.follow.specs.Follow.{slot_room}

pub room_is : (f : Family) (i : ℕ) → Within f i → slot_length i ≡ slot_room f
room_is Windows i w = window_length_lem i w.high
room_is Notifications i w = other_length i w.low

pub family_fits : (f : Family) → 2 + room_all (field_rows f) ≤ slot_room f
family_fits Windows = omega (arith, family_room Windows 0 (record { low = omega arith; high = omega arith }), window_length_lem 0 (omega arith))
family_fits Notifications = omega (arith, family_room Notifications 32 (record { low = omega arith; high = omega arith }), other_length 32 (omega arith))

module _ (f : Family) (b : List ℕ) (i : ℕ) (w : Within f i) where
  pub room_within : 61012 ≤ length b → slot_start i + slot_room f ≤ length b
  room_within big = omega (arith, slot_within i (omega (arith, within_slots f i w)), room_is f i w)

  pub room_slot : slice b (slot_start i) (slot_room f) ≡ slot_of b i
  unfolding slot_of
  room_slot = ap (slice b (slot_start i)) (sym (room_is f i w))
