-- The slot that the search found is copied to the front of the memory.
use Rattle.follow.proofs.Ways.{begun_slot}
use Rattle.follow_orders.proofs.begin_slot.Goals as goal

pub returns : goal.returns
returns c =
    let a = c.args in
    begun_slot a.index.now a.family a.window.id a.notify.id c.find.ensures a.bodies.now a.m.now c.in-Some.i c.in-Some.is c.start.ensures.0 c.slot_room-room.ensures c.copy_part.ensures
