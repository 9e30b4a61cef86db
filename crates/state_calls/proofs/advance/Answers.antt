-- The orders applied to the table at the mark, its figures stored, and no order left.
use Rattle.std.proofs.Common.{◌∙◌, arith}
use Rattle.store.specs.Store.{five}
use Rattle.journal.specs.Journal.{log_of}
use Rattle.journal.specs.View.{Memory, memory}
use Rattle.journal.proofs.Logged.{Logged}
use Rattle.session.proofs.Standing.{stands_logged}
use Rattle.session.proofs.Changes.{apply_asks, checkpoint_granted}
use Rattle.state_calls.proofs.advance.Goals as goal

pub apply-requires : goal.apply-requires
apply-requires c =
    let mem : Memory = memory c.args.index.now c.args.bodies.now (five c.args.a.now c.args.b.now c.args.c.now c.args.d.now c.args.e.now) c.args.journal.now in
    let logged_in : Logged (mem) c.args.w (log_of c.args.journal.now) = stands_logged c.requires in
    let all = apply_asks (logged_in) in
    record { e_value = all.0; journal_length_in_bounds = all.1 }

pub set_mark-requires : goal.set_mark-requires
set_mark-requires c =
    let mem : Memory = memory c.args.index.now c.args.bodies.now (five c.args.a.now c.args.b.now c.args.c.now c.args.d.now c.args.e.now) c.args.journal.now in
    let logged_in : Logged (mem) c.args.w (log_of c.args.journal.now) = stands_logged c.requires in
    let l = (logged_in).long in
    (omega (arith, c.apply.auto.index, l.index), omega (arith, c.apply.auto.bodies, l.bodies), l.journal)

pub shape_of-index : goal.shape_of-index
shape_of-index c = c.set_mark.auto.index ∙ c.apply.auto.index

pub shape_of-bodies : goal.shape_of-bodies
shape_of-bodies c = c.apply.auto.bodies

pub shape_of-a : goal.shape_of-a
shape_of-a c = c.apply.auto.a

pub shape_of-b : goal.shape_of-b
shape_of-b c = c.apply.auto.b

pub shape_of-c : goal.shape_of-c
shape_of-c c = c.apply.auto.c

pub shape_of-d : goal.shape_of-d
shape_of-d c = c.apply.auto.d

pub shape_of-e : goal.shape_of-e
shape_of-e c = c.apply.auto.e

pub shape_of-journal : goal.shape_of-journal
shape_of-journal c = c.set_mark.auto.journal

pub returns : goal.returns
returns c =
    let mem : Memory = memory c.args.index.now c.args.bodies.now (five c.args.a.now c.args.b.now c.args.c.now c.args.d.now c.args.e.now) c.args.journal.now in
    let logged_in : Logged (mem) c.args.w (log_of c.args.journal.now) = stands_logged c.requires in
    checkpoint_granted (mem) (logged_in).long c.apply.auto.index c.apply.auto.bodies c.set_mark.ensures (logged_in) c.apply.ensures
