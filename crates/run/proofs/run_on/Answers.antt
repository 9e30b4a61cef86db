-- Each turn does the call that Ran says comes next, so the calls done are those of the script's course; the loop ends with its number.
use Rattle.std.proofs.Common.{ℕ, ◌+◌, ◌-◌, ◌<◌, ◌∙◌, ◌≤◌, List, arith, length, refl, rules}
use Rattle.run.proofs.RunLoop.{ran_start, ended_small, ran_end, head_ends, item_ends, block_ends, lent_is, ran_more, as_many_lent}
use Rattle.run.proofs.run_on.Goals as goal

pub end_at-ended-requires : goal.end_at-ended-requires
end_at-ended-requires c = omega arith

pub loop-ended-init : goal.loop-ended-init
loop-ended-init c =
    (refl, refl, refl, refl, refl, refl, refl, refl, ran_start _ c.args.script.now c.args.out.now c.end_at-ended.ensures)

pub overflow_add-at : goal.overflow_add-at
overflow_add-at c =
    let script : List ℕ = c.args.script.now in
    let output : List ℕ = c.args.out.now in
    let header : c.loop-ended.at + 3 ≤ length (script) = head_ends (script) (output) c.loop-ended.invariant.8 c.loop-ended-test.true in
    omega (arith, header)

pub overflow_add-arg : goal.overflow_add-arg
overflow_add-arg c =
    let script : List ℕ = c.args.script.now in
    let output : List ℕ = c.args.out.now in
    let header : c.loop-ended.at + 3 ≤ length (script) = head_ends (script) (output) c.loop-ended.invariant.8 c.loop-ended-test.true in
    omega (arith, header)

pub overflow_add-after : goal.overflow_add-after
overflow_add-after c =
    let script : List ℕ = c.args.script.now in
    let output : List ℕ = c.args.out.now in
    let item : c.loop-ended.at + 3 + c.read_u16-size.result ≤ length (script) = item_ends (script) (output) c.loop-ended.invariant.8 c.loop-ended-test.true c.read_u8-kind.ensures c.read_u16-size.ensures in
    omega (arith, item)

pub overflow_add-end : goal.overflow_add-end
overflow_add-end c =
    let script : List ℕ = c.args.script.now in
    let output : List ℕ = c.args.out.now in
    let fits : c.loop-ended.to + c.block_length.result ≤ length c.loop-ended.out = block_ends (script) (output) c.loop-ended.invariant.8 c.loop-ended-test.true c.read_u8-kind.ensures c.read_u16-size.ensures c.block_length.ensures in
    omega (arith, fits)

pub slice_bounds-call-count : goal.slice_bounds-call-count
slice_bounds-call-count c = omega arith

pub slice_bounds-call-start : goal.slice_bounds-call-start
slice_bounds-call-start c = omega arith

pub slice_bounds-call-end : goal.slice_bounds-call-end
slice_bounds-call-end c =
    let script : List ℕ = c.args.script.now in
    let output : List ℕ = c.args.out.now in
    let item : c.loop-ended.at + 3 + c.read_u16-size.result ≤ length (script) = item_ends (script) (output) c.loop-ended.invariant.8 c.loop-ended-test.true c.read_u8-kind.ensures c.read_u16-size.ensures in
    omega (arith, item)

pub slice_bounds-call-count-in-loop-ended : goal.slice_bounds-call-count-in-loop-ended
slice_bounds-call-count-in-loop-ended c = omega arith

pub slice_bounds-call-start-in-loop-ended : goal.slice_bounds-call-start-in-loop-ended
slice_bounds-call-start-in-loop-ended c = omega arith

pub slice_bounds-call-end-in-loop-ended : goal.slice_bounds-call-end-in-loop-ended
slice_bounds-call-end-in-loop-ended c =
    let script : List ℕ = c.args.script.now in
    let output : List ℕ = c.args.out.now in
    let fits : c.loop-ended.to + c.block_length.result ≤ length c.loop-ended.out = block_ends (script) (output) c.loop-ended.invariant.8 c.loop-ended-test.true c.read_u8-kind.ensures c.read_u16-size.ensures c.block_length.ensures in
    omega (arith, fits)

pub call-requires : goal.call-requires
call-requires c =
    let script : List ℕ = c.args.script.now in
    let output : List ℕ = c.args.out.now in
    lent_is (script) (output) c.loop-ended.invariant.8 c.loop-ended-test.true c.read_u8-kind.ensures c.read_u16-size.ensures c.block_length.ensures _

pub overflow_add-n : goal.overflow_add-n
overflow_add-n c =
    let script : List ℕ = c.args.script.now in
    let short : length (script) < 18446744073709551616 = search rules in
    let output : List ℕ = c.args.out.now in
    let header : c.loop-ended.at + 3 ≤ length (script) = head_ends (script) (output) c.loop-ended.invariant.8 c.loop-ended-test.true in
    omega (arith, header, c.loop-ended.invariant.8.far, short)

pub overflow_sub-out : goal.overflow_sub-out
overflow_sub-out c =
    let script : List ℕ = c.args.script.now in
    let output : List ℕ = c.args.out.now in
    let fits : c.loop-ended.to + c.block_length.result ≤ length c.loop-ended.out = block_ends (script) (output) c.loop-ended.invariant.8 c.loop-ended-test.true c.read_u8-kind.ensures c.read_u16-size.ensures c.block_length.ensures in
    omega (arith, fits)

pub end_at-ended-requires-in-loop-ended : goal.end_at-ended-requires-in-loop-ended
end_at-ended-requires-in-loop-ended c =
    let script : List ℕ = c.args.script.now in
    let output : List ℕ = c.args.out.now in
    let item : c.loop-ended.at + 3 + c.read_u16-size.result ≤ length (script) = item_ends (script) (output) c.loop-ended.invariant.8 c.loop-ended-test.true c.read_u8-kind.ensures c.read_u16-size.ensures in
    item

pub loop-ended-smaller : goal.loop-ended-smaller
loop-ended-smaller c =
    let script : List ℕ = c.args.script.now in
    let output : List ℕ = c.args.out.now in
    let item : c.loop-ended.at + 3 + c.read_u16-size.result ≤ length (script) = item_ends (script) (output) c.loop-ended.invariant.8 c.loop-ended-test.true c.read_u8-kind.ensures c.read_u16-size.ensures in
    omega (arith, item)

pub loop-ended-preserved : goal.loop-ended-preserved
loop-ended-preserved c =
    let script : List ℕ = c.args.script.now in
    let output : List ℕ = c.args.out.now in
    let i = c.loop-ended.invariant in
    let s = c.args in (
      c.call.auto.index ∙ i.0,
      c.call.auto.bodies ∙ i.1,
      c.call.auto.a ∙ i.2,
      c.call.auto.b ∙ i.3,
      c.call.auto.c ∙ i.4,
      c.call.auto.d ∙ i.5,
      c.call.auto.e ∙ i.6,
      c.call.auto.journal ∙ i.7,
      ran_more (script) (output) i.8 c.loop-ended-test.true c.read_u8-kind.ensures c.read_u16-size.ensures c.block_length.ensures (as_many_lent c.loop-ended.a c.loop-ended.b c.loop-ended.c c.loop-ended.d c.loop-ended.e s.a.now s.b.now s.c.now s.d.now s.e.now i.2 i.3 i.4 i.5 i.6) c.call.ensures c.call.auto.out refl c.end_at-ended-in-loop-ended.ensures,
    )

pub overflow_cast-result : goal.overflow_cast-result
overflow_cast-result c =
    let last : c.loop-ended.ended ≤ 255 = ended_small c.args.script.now c.args.out.now c.loop-ended.invariant.8 in
    omega (arith, last)

pub overflow_mul-result : goal.overflow_mul-result
overflow_mul-result c = omega arith

pub overflow_add-result : goal.overflow_add-result
overflow_add-result c =
    let last : c.loop-ended.ended ≤ 255 = ended_small c.args.script.now c.args.out.now c.loop-ended.invariant.8 in
    omega (arith, last)

pub shape_of-index : goal.shape_of-index
shape_of-index c = c.loop-ended.invariant.0

pub shape_of-bodies : goal.shape_of-bodies
shape_of-bodies c = c.loop-ended.invariant.1

pub shape_of-a : goal.shape_of-a
shape_of-a c = c.loop-ended.invariant.2

pub shape_of-b : goal.shape_of-b
shape_of-b c = c.loop-ended.invariant.3

pub shape_of-c : goal.shape_of-c
shape_of-c c = c.loop-ended.invariant.4

pub shape_of-d : goal.shape_of-d
shape_of-d c = c.loop-ended.invariant.5

pub shape_of-e : goal.shape_of-e
shape_of-e c = c.loop-ended.invariant.6

pub shape_of-journal : goal.shape_of-journal
shape_of-journal c = c.loop-ended.invariant.7

pub shape_of-out : goal.shape_of-out
shape_of-out c = c.loop-ended.invariant.8.same

pub returns : goal.returns
returns c = ran_end c.args.script.now c.args.out.now c.loop-ended.invariant.8 c.requires c.loop-ended-test.false refl
