-- The slot of the change is lent, changed and given back.
use Rattle.std.proofs.Common.{◌≤◌, arith}
use Rattle.table.proofs.Ways.{slots_deleted, part_in_order, part_roomy, part_same, slots_changed}
use Rattle.table_change.proofs.record_slot.Goals as goal

pub returns-then-c : goal.returns-then-c
returns-then-c c = let a = c.args in slots_deleted a.s.now a.bodies.now a.c c.if-c.true

pub start-base-requires : goal.start-base-requires
start-base-requires c = omega (arith, c.requires.1.slot)

pub overflow_add-c : goal.overflow_add-c
overflow_add-c c = omega (arith, c.requires.1.slot)

pub start-end-requires : goal.start-end-requires
start-end-requires c = omega (arith, c.requires.1.slot)

pub slice_bounds-change_slot-count : goal.slice_bounds-change_slot-count
slice_bounds-change_slot-count c =
    let ordered : c.start-base.result ≤ c.start-end.result = part_in_order c.args.bodies.now c.args.c.slot c.start-base.ensures.0 c.start-end.ensures.0 in
    ordered

pub slice_bounds-change_slot-start : goal.slice_bounds-change_slot-start
slice_bounds-change_slot-start c =
    let ordered : c.start-base.result ≤ c.start-end.result = part_in_order c.args.bodies.now c.args.c.slot c.start-base.ensures.0 c.start-end.ensures.0 in
    ordered

pub slice_bounds-change_slot-end : goal.slice_bounds-change_slot-end
slice_bounds-change_slot-end c = omega (arith, c.start-end.ensures.1, c.requires.0)

pub change_slot-requires : goal.change_slot-requires
change_slot-requires c =
    let a = c.requires.1 in
    (part_roomy c.args.bodies.now c.args.c.slot c.start-base.ensures.0 c.start-end.ensures.0 _ (omega (arith, a.slot)) c.requires.0 a.room, a)

pub shape_of-bodies : goal.shape_of-bodies
shape_of-bodies c =
    let ordered : c.start-base.result ≤ c.start-end.result = part_in_order c.args.bodies.now c.args.c.slot c.start-base.ensures.0 c.start-end.ensures.0 in
    part_same c.args.bodies.now c.change_slot.new.slot c.start-base.result c.start-end.result (ordered) (omega (arith, c.start-end.ensures.1, c.requires.0)) c.change_slot.auto.slot

pub returns : goal.returns
returns c =
    slots_changed c.args.s.now c.args.bodies.now c.args.c c.if-c.false c.requires.0 c.requires.1 c.start-base.ensures.0 c.start-end.ensures.0 c.change_slot.auto.slot c.change_slot.ensures
