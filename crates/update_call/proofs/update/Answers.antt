-- 1 where the rule is not met; else each turn delivers the order that the definition delivers next, on what the one before left.
use Rattle.std.proofs.Common.{ℕ, ◌+◌, ◌-◌, ◌<◌, ◌∙◌, ◌≤◌, List, arith, length, refl, sym}
use Rattle.wire.proofs.Numbers.{Bytes}
use Rattle.places.proofs.HeldTaken.{held_none}
use Rattle.journal.specs.View.{Memory, memory}
use Rattle.journal.proofs.Indexed.{unmet, indexed}
use Rattle.session.proofs.Lent.{a_store, a_store_lends}
use Rattle.update.proofs.Courses.{Going, unfit_outcome, going_start, going_fits, going_ready, going_end, end_after, end_within, going_refused, going_more}
use Rattle.update_call.proofs.update.Goals as goal

pub slice_bounds-extent-end : goal.slice_bounds-extent-end
slice_bounds-extent-end c = refl

pub extent-requires : goal.extent-requires
extent-requires c = refl

pub returns-in_default : goal.returns-in_default
returns-in_default c p is =
    let mem : List (List ℕ) → Memory = (λ p. memory c.args.index.now c.args.bodies.now p c.args.journal.now) in
    unfit_outcome c.args.limit c.args.s.now (mem p) (unmet (c.in_default.ensures p is)) refl

pub loop-n-init : goal.loop-n-init
loop-n-init c =
    (refl, λ p is. going_start c.args.limit c.args.s.now (indexed (c.in-Some.ensures p is)), c.extent.auto.d, held_none c.extent.new.d)

pub cut-end-requires : goal.cut-end-requires
cut-end-requires c =
    let mem : List (List ℕ) → Memory = (λ p. memory c.args.index.now c.args.bodies.now p c.args.journal.now) in
    let limit : ℕ = c.args.limit in
    let bytes : List ℕ = c.args.s.now in
    let going : Going (mem (a_store c.args.lent)) (limit) (bytes) c.in-Some.w c.loop-n.n c.loop-n.at c.loop-n.d c.loop-n.journal = c.loop-n.invariant.1 (a_store c.args.lent) (a_store_lends c.args.lent) in
    (going).within

pub overflow_cast-extent : goal.overflow_cast-extent
overflow_cast-extent c =
    let limit : ℕ = c.args.limit in
    let bytes : List ℕ = c.args.s.now in
    let mem : List (List ℕ) → Memory = (λ p. memory c.args.index.now c.args.bodies.now p c.args.journal.now) in
    let going : Going (mem (a_store c.args.lent)) (limit) (bytes) c.in-Some.w c.loop-n.n c.loop-n.at c.loop-n.d c.loop-n.journal = c.loop-n.invariant.1 (a_store c.args.lent) (a_store_lends c.args.lent) in
    let room : (c.in-Some.w.count + c.loop-n.n ≤ 128) × (2 ≤ c.in-Some.w.end) × (c.in-Some.w.end + c.loop-n.at ≤ 32770) = going_fits (limit) (bytes) (going) in
    record { fits = omega (arith, (room).0) }

pub overflow_add-extent : goal.overflow_add-extent
overflow_add-extent c =
    let limit : ℕ = c.args.limit in
    let bytes : List ℕ = c.args.s.now in
    let mem : List (List ℕ) → Memory = (λ p. memory c.args.index.now c.args.bodies.now p c.args.journal.now) in
    let going : Going (mem (a_store c.args.lent)) (limit) (bytes) c.in-Some.w c.loop-n.n c.loop-n.at c.loop-n.d c.loop-n.journal = c.loop-n.invariant.1 (a_store c.args.lent) (a_store_lends c.args.lent) in
    let room : (c.in-Some.w.count + c.loop-n.n ≤ 128) × (2 ≤ c.in-Some.w.end) × (c.in-Some.w.end + c.loop-n.at ≤ 32770) = going_fits (limit) (bytes) (going) in
    omega (arith, (room).0)

pub overflow_add-extent-in-loop-n : goal.overflow_add-extent-in-loop-n
overflow_add-extent-in-loop-n c =
    let limit : ℕ = c.args.limit in
    let bytes : List ℕ = c.args.s.now in
    let mem : List (List ℕ) → Memory = (λ p. memory c.args.index.now c.args.bodies.now p c.args.journal.now) in
    let going : Going (mem (a_store c.args.lent)) (limit) (bytes) c.in-Some.w c.loop-n.n c.loop-n.at c.loop-n.d c.loop-n.journal = c.loop-n.invariant.1 (a_store c.args.lent) (a_store_lends c.args.lent) in
    let room : (c.in-Some.w.count + c.loop-n.n ≤ 128) × (2 ≤ c.in-Some.w.end) × (c.in-Some.w.end + c.loop-n.at ≤ 32770) = going_fits (limit) (bytes) (going) in
    omega (arith, (room).2)

pub slice_bounds-deliver_on-end : goal.slice_bounds-deliver_on-end
slice_bounds-deliver_on-end c = sym c.loop-n.invariant.2

pub slice_bounds-deliver_on-count : goal.slice_bounds-deliver_on-count
slice_bounds-deliver_on-count c =
    let limit : ℕ = c.args.limit in
    let bytes : List ℕ = c.args.s.now in
    let mem : List (List ℕ) → Memory = (λ p. memory c.args.index.now c.args.bodies.now p c.args.journal.now) in
    let going : Going (mem (a_store c.args.lent)) (limit) (bytes) c.in-Some.w c.loop-n.n c.loop-n.at c.loop-n.d c.loop-n.journal = c.loop-n.invariant.1 (a_store c.args.lent) (a_store_lends c.args.lent) in
    let after : c.loop-n.at < c.cut-end.result = end_after (limit) (bytes) (going) c.loop-n-test.true c.cut-end.ensures in
    omega (arith, after)

pub slice_bounds-deliver_on-start : goal.slice_bounds-deliver_on-start
slice_bounds-deliver_on-start c =
    let limit : ℕ = c.args.limit in
    let bytes : List ℕ = c.args.s.now in
    let mem : List (List ℕ) → Memory = (λ p. memory c.args.index.now c.args.bodies.now p c.args.journal.now) in
    let going : Going (mem (a_store c.args.lent)) (limit) (bytes) c.in-Some.w c.loop-n.n c.loop-n.at c.loop-n.d c.loop-n.journal = c.loop-n.invariant.1 (a_store c.args.lent) (a_store_lends c.args.lent) in
    let after : c.loop-n.at < c.cut-end.result = end_after (limit) (bytes) (going) c.loop-n-test.true c.cut-end.ensures in
    omega (arith, after)

pub slice_bounds-deliver_on-end-in-loop-n : goal.slice_bounds-deliver_on-end-in-loop-n
slice_bounds-deliver_on-end-in-loop-n c =
    let limit : ℕ = c.args.limit in
    let bytes : List ℕ = c.args.s.now in
    let mem : List (List ℕ) → Memory = (λ p. memory c.args.index.now c.args.bodies.now p c.args.journal.now) in
    let going : Going (mem (a_store c.args.lent)) (limit) (bytes) c.in-Some.w c.loop-n.n c.loop-n.at c.loop-n.d c.loop-n.journal = c.loop-n.invariant.1 (a_store c.args.lent) (a_store_lends c.args.lent) in
    let within : c.cut-end.result ≤ length (bytes) = end_within (limit) (bytes) (going) c.loop-n-test.true c.cut-end.ensures in
    within

pub deliver_on-r-requires : goal.deliver_on-r-requires
deliver_on-r-requires c =
    let limit : ℕ = c.args.limit in
    let bytes : List ℕ = c.args.s.now in
    let mem : List (List ℕ) → Memory = (λ p. memory c.args.index.now c.args.bodies.now p c.args.journal.now) in
    let going : Going (mem (a_store c.args.lent)) (limit) (bytes) c.in-Some.w c.loop-n.n c.loop-n.at c.loop-n.d c.loop-n.journal = c.loop-n.invariant.1 (a_store c.args.lent) (a_store_lends c.args.lent) in
    (going_ready (limit) (bytes) (going), c.loop-n.invariant.3)

pub reported-requires : goal.reported-requires
reported-requires c =
    let limit : ℕ = c.args.limit in
    let bytes : List ℕ = c.args.s.now in
    let mem : List (List ℕ) → Memory = (λ p. memory c.args.index.now c.args.bodies.now p c.args.journal.now) in
    let going : Going (mem (a_store c.args.lent)) (limit) (bytes) c.in-Some.w c.loop-n.n c.loop-n.at c.loop-n.d c.loop-n.journal = c.loop-n.invariant.1 (a_store c.args.lent) (a_store_lends c.args.lent) in
    going_fits (limit) (bytes) (going)

pub shape_of-journal-then-r-ne0 : goal.shape_of-journal-then-r-ne0
shape_of-journal-then-r-ne0 c = c.deliver_on-r.auto.journal ∙ c.loop-n.invariant.0

pub returns-then-r-ne0 : goal.returns-then-r-ne0
returns-then-r-ne0 c p is =
    let limit : ℕ = c.args.limit in
    let bytes : List ℕ = c.args.s.now in
    let small : Bytes (bytes) = record { small = λ i. omega (arith, c.shared_slice_known-3-1.given i) } in
    going_refused (limit) (bytes) (c.loop-n.invariant.1 p is) c.loop-n-test.true c.cut-end.ensures (small) c.deliver_on-r.ensures c.if-r-ne0.true c.reported.ensures

pub overflow_add-n : goal.overflow_add-n
overflow_add-n c =
    let limit : ℕ = c.args.limit in
    let bytes : List ℕ = c.args.s.now in
    let mem : List (List ℕ) → Memory = (λ p. memory c.args.index.now c.args.bodies.now p c.args.journal.now) in
    let going : Going (mem (a_store c.args.lent)) (limit) (bytes) c.in-Some.w c.loop-n.n c.loop-n.at c.loop-n.d c.loop-n.journal = c.loop-n.invariant.1 (a_store c.args.lent) (a_store_lends c.args.lent) in
    let room : (c.in-Some.w.count + c.loop-n.n ≤ 128) × (2 ≤ c.in-Some.w.end) × (c.in-Some.w.end + c.loop-n.at ≤ 32770) = going_fits (limit) (bytes) (going) in
    omega (arith, (room).0)

pub loop-n-smaller : goal.loop-n-smaller
loop-n-smaller c =
    let limit : ℕ = c.args.limit in
    let bytes : List ℕ = c.args.s.now in
    let mem : List (List ℕ) → Memory = (λ p. memory c.args.index.now c.args.bodies.now p c.args.journal.now) in
    let going : Going (mem (a_store c.args.lent)) (limit) (bytes) c.in-Some.w c.loop-n.n c.loop-n.at c.loop-n.d c.loop-n.journal = c.loop-n.invariant.1 (a_store c.args.lent) (a_store_lends c.args.lent) in
    let after : c.loop-n.at < c.cut-end.result = end_after (limit) (bytes) (going) c.loop-n-test.true c.cut-end.ensures in
    let within : c.cut-end.result ≤ length (bytes) = end_within (limit) (bytes) (going) c.loop-n-test.true c.cut-end.ensures in
    omega (arith, after, within)

pub loop-n-preserved : goal.loop-n-preserved
loop-n-preserved c =
    let limit : ℕ = c.args.limit in
    let bytes : List ℕ = c.args.s.now in
    let small : Bytes (bytes) = record { small = λ i. omega (arith, c.shared_slice_known-3-1.given i) } in (
      c.deliver_on-r.auto.journal ∙ c.loop-n.invariant.0,
      λ p is. going_more (limit) (bytes) (c.loop-n.invariant.1 p is) c.loop-n-test.true c.cut-end.ensures (small) c.deliver_on-r.ensures c.if-r-ne0.false,
      c.deliver_on-r.auto.d ∙ c.loop-n.invariant.2,
      c.deliver_on-r.ensures.holds,
    )

pub reported-requires-2 : goal.reported-requires-2
reported-requires-2 c = going_fits c.args.limit c.args.s.now (c.loop-n.invariant.1 (a_store c.args.lent) (a_store_lends c.args.lent))

pub shape_of-journal : goal.shape_of-journal
shape_of-journal c = c.loop-n.invariant.0

pub returns : goal.returns
returns c p is = going_end c.args.limit c.args.s.now (c.loop-n.invariant.1 p is) c.loop-n-test.false c.reported-2.ensures
