-- Kind 2 by itself; any other leaves the store.
use Rattle.std.proofs.Common.{ℕ, ◌∙◌, ◌≡◌, List, ap, arith, length, refl}
use Rattle.store.specs.Store.{places_in, five}
use Rattle.session.specs.Calls.{checkpoint}
use Rattle.run.specs.Script.{block_length}
use Rattle.run.proofs.Calls.{done_as, steps_checkpoint, reply_block}
use Rattle.run.proofs.call.Goals as goal

pub put_reply-requires : goal.put_reply-requires
put_reply-requires c =
    let store : List (List ℕ) = five c.args.a.now c.args.b.now c.args.c.now c.args.d.now c.args.e.now in
    let lent : ℕ = places_in (store) in
    let room : c.args.kind ≡ 2 → length c.args.out.now ≡ 4 = (λ two. c.requires ∙ ap block_length (steps_checkpoint (lent) c.args.kind c.args.arg.now two)) in
    let four = room c.if-kind-eq2.true in
    omega arith

pub table_call-requires : goal.table_call-requires
table_call-requires c = (c.if-kind-eq2.false, c.requires)

pub shape_of-index-then-kind-eq2 : goal.shape_of-index-then-kind-eq2
shape_of-index-then-kind-eq2 c = c.checkpoint-r.auto.index

pub shape_of-bodies-then-kind-eq2 : goal.shape_of-bodies-then-kind-eq2
shape_of-bodies-then-kind-eq2 c = c.checkpoint-r.auto.bodies

pub shape_of-a-then-kind-eq2 : goal.shape_of-a-then-kind-eq2
shape_of-a-then-kind-eq2 c = c.checkpoint-r.auto.a

pub shape_of-b-then-kind-eq2 : goal.shape_of-b-then-kind-eq2
shape_of-b-then-kind-eq2 c = c.checkpoint-r.auto.b

pub shape_of-c-then-kind-eq2 : goal.shape_of-c-then-kind-eq2
shape_of-c-then-kind-eq2 c = c.checkpoint-r.auto.c

pub shape_of-d-then-kind-eq2 : goal.shape_of-d-then-kind-eq2
shape_of-d-then-kind-eq2 c = c.checkpoint-r.auto.d

pub shape_of-e-then-kind-eq2 : goal.shape_of-e-then-kind-eq2
shape_of-e-then-kind-eq2 c = c.checkpoint-r.auto.e

pub shape_of-journal-then-kind-eq2 : goal.shape_of-journal-then-kind-eq2
shape_of-journal-then-kind-eq2 c = c.checkpoint-r.auto.journal

pub shape_of-out-then-kind-eq2 : goal.shape_of-out-then-kind-eq2
shape_of-out-then-kind-eq2 c = c.put_reply.auto.out

pub returns-then-kind-eq2 : goal.returns-then-kind-eq2
returns-then-kind-eq2 c =
    let store : List (List ℕ) = five c.args.a.now c.args.b.now c.args.c.now c.args.d.now c.args.e.now in
    let lent : ℕ = places_in (store) in
    let room : c.args.kind ≡ 2 → length c.args.out.now ≡ 4 = (λ two. c.requires ∙ ap block_length (steps_checkpoint (lent) c.args.kind c.args.arg.now two)) in
    let two = c.if-kind-eq2.true in
    done_as (steps_checkpoint (lent) c.args.kind c.args.arg.now two) (reply_block checkpoint c.args.out.now refl c.checkpoint-r.ensures (room two) c.put_reply.ensures)

pub shape_of-index-else-kind-eq2 : goal.shape_of-index-else-kind-eq2
shape_of-index-else-kind-eq2 c = c.table_call.auto.index

pub shape_of-bodies-else-kind-eq2 : goal.shape_of-bodies-else-kind-eq2
shape_of-bodies-else-kind-eq2 c = c.table_call.auto.bodies

pub shape_of-a-else-kind-eq2 : goal.shape_of-a-else-kind-eq2
shape_of-a-else-kind-eq2 c = refl

pub shape_of-b-else-kind-eq2 : goal.shape_of-b-else-kind-eq2
shape_of-b-else-kind-eq2 c = refl

pub shape_of-c-else-kind-eq2 : goal.shape_of-c-else-kind-eq2
shape_of-c-else-kind-eq2 c = refl

pub shape_of-d-else-kind-eq2 : goal.shape_of-d-else-kind-eq2
shape_of-d-else-kind-eq2 c = refl

pub shape_of-e-else-kind-eq2 : goal.shape_of-e-else-kind-eq2
shape_of-e-else-kind-eq2 c = refl

pub shape_of-journal-else-kind-eq2 : goal.shape_of-journal-else-kind-eq2
shape_of-journal-else-kind-eq2 c = c.table_call.auto.journal

pub shape_of-out-else-kind-eq2 : goal.shape_of-out-else-kind-eq2
shape_of-out-else-kind-eq2 c = c.table_call.auto.out

pub returns-else-kind-eq2 : goal.returns-else-kind-eq2
returns-else-kind-eq2 c = c.table_call.ensures
