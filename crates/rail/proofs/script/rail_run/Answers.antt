-- What the run states, its parts of the length that they were lent with.
use Rattle.rail.proofs.script.rail_run.Goals as goal

pub shape_of-index : goal.shape_of-index
shape_of-index c = c.run.auto.index

pub shape_of-bodies : goal.shape_of-bodies
shape_of-bodies c = c.run.auto.bodies

pub shape_of-a : goal.shape_of-a
shape_of-a c = c.run.auto.a

pub shape_of-b : goal.shape_of-b
shape_of-b c = c.run.auto.b

pub shape_of-c : goal.shape_of-c
shape_of-c c = c.run.auto.c

pub shape_of-d : goal.shape_of-d
shape_of-d c = c.run.auto.d

pub shape_of-e : goal.shape_of-e
shape_of-e c = c.run.auto.e

pub shape_of-journal : goal.shape_of-journal
shape_of-journal c = c.run.auto.journal

pub shape_of-out : goal.shape_of-out
shape_of-out c = c.run.auto.out

pub returns : goal.returns
returns c = c.run.ensures
