-- Kind 0 by itself; any other leaves the index and the bodies.
use Rattle.std.proofs.Common.{ℕ, ◌∙◌, List, ap, refl, sym}
use Rattle.store.specs.Store.{places_in, five}
use Rattle.session.specs.Calls.{reset}
use Rattle.run.specs.Script.{one_call, step_of, block_length}
use Rattle.run.proofs.Calls.{done_as, steps_reset}
use Rattle.run.proofs.table_call.Goals as goal

pub reset_block-requires : goal.reset_block-requires
reset_block-requires c =
    let store : List (List ℕ) = five c.args.a.now c.args.b.now c.args.c.now c.args.d.now c.args.e.now in
    let lent : ℕ = places_in (store) in
    c.requires.1 ∙ ap block_length (steps_reset (lent) c.args.kind c.args.arg.now c.if-kind-eq0.true)

pub journal_call-requires : goal.journal_call-requires
journal_call-requires c =
    (c.if-kind-eq0.false, c.requires.0, c.places-lent.ensures, c.requires.1 ∙ ap (λ (x : ℕ). block_length (step_of x c.args.kind c.args.arg.now)) (sym c.places-lent.ensures))

pub shape_of-index-then-kind-eq0 : goal.shape_of-index-then-kind-eq0
shape_of-index-then-kind-eq0 c = c.reset_block.auto.index

pub shape_of-bodies-then-kind-eq0 : goal.shape_of-bodies-then-kind-eq0
shape_of-bodies-then-kind-eq0 c = c.reset_block.auto.bodies

pub shape_of-journal-then-kind-eq0 : goal.shape_of-journal-then-kind-eq0
shape_of-journal-then-kind-eq0 c = c.reset_block.auto.journal

pub shape_of-out-then-kind-eq0 : goal.shape_of-out-then-kind-eq0
shape_of-out-then-kind-eq0 c = c.reset_block.auto.out

pub returns-then-kind-eq0 : goal.returns-then-kind-eq0
returns-then-kind-eq0 c =
    let store : List (List ℕ) = five c.args.a.now c.args.b.now c.args.c.now c.args.d.now c.args.e.now in
    let lent : ℕ = places_in (store) in
    let n = sym c.places-lent.ensures in
    done_as (steps_reset (lent) c.args.kind c.args.arg.now c.if-kind-eq0.true ∙ ap (λ (x : ℕ). one_call (reset x)) n) (c.reset_block.ensures (store) n)

pub shape_of-index-else-kind-eq0 : goal.shape_of-index-else-kind-eq0
shape_of-index-else-kind-eq0 c = refl

pub shape_of-bodies-else-kind-eq0 : goal.shape_of-bodies-else-kind-eq0
shape_of-bodies-else-kind-eq0 c = refl

pub shape_of-journal-else-kind-eq0 : goal.shape_of-journal-else-kind-eq0
shape_of-journal-else-kind-eq0 c = c.journal_call.auto.journal

pub shape_of-out-else-kind-eq0 : goal.shape_of-out-else-kind-eq0
shape_of-out-else-kind-eq0 c = c.journal_call.auto.out

pub returns-else-kind-eq0 : goal.returns-else-kind-eq0
returns-else-kind-eq0 c =
    done_as (ap (λ (x : ℕ). step_of x c.args.kind c.args.arg.now) (sym c.places-lent.ensures)) c.journal_call.ensures
