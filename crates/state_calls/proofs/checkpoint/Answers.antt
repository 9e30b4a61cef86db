-- 1 where the rule is not met.
use Rattle.std.proofs.Common.{refl}
use Rattle.store.specs.Store.{five}
use Rattle.journal.specs.View.{Memory, memory}
use Rattle.session.specs.Calls.{checkpoint}
use Rattle.session.specs.Outcome.{plain}
use Rattle.session.proofs.Outcomes.{refused_unmet}
use Rattle.journal.proofs.Logged.{extent_unmet}
use Rattle.session.proofs.Standing.{extent_stands}
use Rattle.state_calls.proofs.checkpoint.Goals as goal

pub returns-in_default : goal.returns-in_default
returns-in_default c =
    let mem : Memory = memory c.args.index.now c.args.bodies.now (five c.args.a.now c.args.b.now c.args.c.now c.args.d.now c.args.e.now) c.args.journal.now in
    let m = mem in
    refused_unmet (plain checkpoint) m refl (extent_unmet m c.in_default.ensures) c.refused.ensures

pub advance-requires : goal.advance-requires
advance-requires c =
    let mem : Memory = memory c.args.index.now c.args.bodies.now (five c.args.a.now c.args.b.now c.args.c.now c.args.d.now c.args.e.now) c.args.journal.now in
    extent_stands (mem) c.in-Some.ensures

pub shape_of-index : goal.shape_of-index
shape_of-index c = c.advance.auto.index

pub shape_of-bodies : goal.shape_of-bodies
shape_of-bodies c = c.advance.auto.bodies

pub shape_of-a : goal.shape_of-a
shape_of-a c = c.advance.auto.a

pub shape_of-b : goal.shape_of-b
shape_of-b c = c.advance.auto.b

pub shape_of-c : goal.shape_of-c
shape_of-c c = c.advance.auto.c

pub shape_of-d : goal.shape_of-d
shape_of-d c = c.advance.auto.d

pub shape_of-e : goal.shape_of-e
shape_of-e c = c.advance.auto.e

pub shape_of-journal : goal.shape_of-journal
shape_of-journal c = c.advance.auto.journal

pub returns : goal.returns
returns c = c.advance.ensures
