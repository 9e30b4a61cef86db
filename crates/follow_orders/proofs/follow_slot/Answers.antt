-- The slot changes where the change is for the record and does not delete it.
use Rattle.std.proofs.Common.{◌-◌, ◌≡◌, ap, arith, not}
use Rattle.follow.proofs.Ways.{slot_fits, slot_changed}
use Rattle.follow.specs.Follow.{slot_room}
use Rattle.wire.specs.Parts.{slice}
use Rattle.wire.proofs.Parts.{length_slice}
use Rattle.follow_orders.proofs.follow_slot.Goals as goal

pub change_slot-requires : goal.change_slot-requires
unfolding slice
change_slot-requires c =
    let a = c.args in
    let n : c.slot_room-room.result - 0 ≡ slot_room a.family = omega (arith, c.slot_room-room.ensures) in
    (slot_fits a.family a.window.id a.notify.id a.s.now a.c a.m.now c.is_for.ensures (ap not c.if-not-is_for.false) n (length_slice a.m.now 0 (c.slot_room-room.result - 0) (omega (arith, n, c.requires.0))), c.requires.1)

pub returns : goal.returns
unfolding slice
returns c =
    let a = c.args in
    let n : c.slot_room-room.result - 0 ≡ slot_room a.family = omega (arith, c.slot_room-room.ensures) in
    slot_changed a.family a.window.id a.notify.id a.s.now a.c a.m.now c.is_for.ensures c.change_slot.new.slot (ap not c.if-not-is_for.false) c.if-c.false n (omega (arith, n, c.requires.0)) c.change_slot.auto.slot c.change_slot.ensures
