-- Where the emptying is refused nothing changes; where it is granted the run begins on emptied memory.
use Rattle.std.proofs.Common.{ℕ, ◌∙◌, List, refl, sym}
use Rattle.store.specs.Store.{five}
use Rattle.run.proofs.RunLoop.{emptied_holds, run_refused, run_granted}
use Rattle.run.proofs.run.Goals as goal

pub shape_of-index-then-r-ne0 : goal.shape_of-index-then-r-ne0
shape_of-index-then-r-ne0 c = c.reset-r.auto.index

pub shape_of-bodies-then-r-ne0 : goal.shape_of-bodies-then-r-ne0
shape_of-bodies-then-r-ne0 c = c.reset-r.auto.bodies

pub shape_of-a-then-r-ne0 : goal.shape_of-a-then-r-ne0
shape_of-a-then-r-ne0 c = refl

pub shape_of-b-then-r-ne0 : goal.shape_of-b-then-r-ne0
shape_of-b-then-r-ne0 c = refl

pub shape_of-c-then-r-ne0 : goal.shape_of-c-then-r-ne0
shape_of-c-then-r-ne0 c = refl

pub shape_of-d-then-r-ne0 : goal.shape_of-d-then-r-ne0
shape_of-d-then-r-ne0 c = refl

pub shape_of-e-then-r-ne0 : goal.shape_of-e-then-r-ne0
shape_of-e-then-r-ne0 c = refl

pub shape_of-journal-then-r-ne0 : goal.shape_of-journal-then-r-ne0
shape_of-journal-then-r-ne0 c = c.reset-r.auto.journal

pub returns-then-r-ne0 : goal.returns-then-r-ne0
returns-then-r-ne0 c =
    let store : List (List ℕ) = five c.args.a.now c.args.b.now c.args.c.now c.args.d.now c.args.e.now in
    run_refused c.places-lent.ensures (c.reset-r.ensures (store) (sym c.places-lent.ensures)) c.args.script.now c.args.out.now c.if-r-ne0.true

pub run_on-requires : goal.run_on-requires
run_on-requires c =
    let store : List (List ℕ) = five c.args.a.now c.args.b.now c.args.c.now c.args.d.now c.args.e.now in
    emptied_holds c.places-lent.ensures (c.reset-r.ensures (store) (sym c.places-lent.ensures)) c.if-r-ne0.false

pub shape_of-index : goal.shape_of-index
shape_of-index c = c.run_on.auto.index ∙ c.reset-r.auto.index

pub shape_of-bodies : goal.shape_of-bodies
shape_of-bodies c = c.run_on.auto.bodies ∙ c.reset-r.auto.bodies

pub shape_of-a : goal.shape_of-a
shape_of-a c = c.run_on.auto.a

pub shape_of-b : goal.shape_of-b
shape_of-b c = c.run_on.auto.b

pub shape_of-c : goal.shape_of-c
shape_of-c c = c.run_on.auto.c

pub shape_of-d : goal.shape_of-d
shape_of-d c = c.run_on.auto.d

pub shape_of-e : goal.shape_of-e
shape_of-e c = c.run_on.auto.e

pub shape_of-journal : goal.shape_of-journal
shape_of-journal c = c.run_on.auto.journal ∙ c.reset-r.auto.journal

pub shape_of-out : goal.shape_of-out
shape_of-out c = c.run_on.auto.out

pub returns : goal.returns
returns c =
    let store : List (List ℕ) = five c.args.a.now c.args.b.now c.args.c.now c.args.d.now c.args.e.now in
    run_granted c.places-lent.ensures (c.reset-r.ensures (store) (sym c.places-lent.ensures)) c.args.script.now c.args.out.now c.if-r-ne0.false c.run_on.ensures
