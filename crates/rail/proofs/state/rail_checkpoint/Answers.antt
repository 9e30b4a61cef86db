-- The call's outcome, its reply packed.
use Rattle.rail.proofs.States.{exported}
use Rattle.rail.proofs.state.rail_checkpoint.Goals as goal

pub shape_of-index : goal.shape_of-index
shape_of-index c = c.checkpoint-r.auto.index

pub shape_of-bodies : goal.shape_of-bodies
shape_of-bodies c = c.checkpoint-r.auto.bodies

pub shape_of-a : goal.shape_of-a
shape_of-a c = c.checkpoint-r.auto.a

pub shape_of-b : goal.shape_of-b
shape_of-b c = c.checkpoint-r.auto.b

pub shape_of-c : goal.shape_of-c
shape_of-c c = c.checkpoint-r.auto.c

pub shape_of-d : goal.shape_of-d
shape_of-d c = c.checkpoint-r.auto.d

pub shape_of-e : goal.shape_of-e
shape_of-e c = c.checkpoint-r.auto.e

pub shape_of-journal : goal.shape_of-journal
shape_of-journal c = c.checkpoint-r.auto.journal

pub returns : goal.returns
returns c = exported c.checkpoint-r.ensures c.packed.ensures
