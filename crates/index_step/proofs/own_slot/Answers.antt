-- The slot near by, or what the search finds.
use Rattle.std.proofs.Common.{sym}
use Rattle.slots.proofs.Ways.{sound_long}
use Rattle.index.proofs.PlansMade.{slot_near, slot_searched}
use Rattle.index_step.proofs.own_slot.Goals as goal

pub is_near-requires : goal.is_near-requires
is_near-requires c = sound_long c.args.index.now c.requires.0

pub returns-then-is_near : goal.returns-then-is_near
returns-then-is_near c =
    slot_near c.args.index.now c.args.o (sym c.requires.1) c.requires.0 c.args.near c.is_near.ensures c.if-is_near.true

pub searched_slot-requires : goal.searched_slot-requires
searched_slot-requires c = sound_long c.args.index.now c.requires.0

pub returns : goal.returns
returns c = slot_searched c.args.index.now c.args.o (sym c.requires.1) c.searched_slot.ensures
