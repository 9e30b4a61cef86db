-- The places before p have marks; those from p on are still to be searched.
use Rattle.std.proofs.Common.{◌+◌, ◌-◌, ◌∙◌, arith, eq-eqb, get_or, ne_eqb, sym}
use Rattle.places.proofs.Ways.{first_start, first_here, first_next, first_none}
use Rattle.places_free.proofs.first_unmarked.Invariants.{unmarked}
use Rattle.places_free.proofs.first_unmarked.Goals as goal

pub loop-p-init : goal.loop-p-init
loop-p-init c = first_start (unmarked c.args.marks.now) c.args.n

pub returns-then-marks-p-eq0 : goal.returns-then-marks-p-eq0
returns-then-marks-p-eq0 c =
    let ms = c.args.marks.now in
    sym
    (c.loop-p.invariant
    ∙ first_here (unmarked ms) c.args.n c.loop-p.p c.loop-p-test.true (eq-eqb (get_or ms (c.loop-p.p + 1) 0) 0 c.if-marks-p-eq0.true))

pub loop-p-preserved : goal.loop-p-preserved
loop-p-preserved c =
    let ms = c.args.marks.now in
    c.loop-p.invariant
    ∙ first_next (unmarked ms) c.args.n c.loop-p.p c.loop-p-test.true (ne_eqb (get_or ms (c.loop-p.p + 1) 0) 0 c.if-marks-p-eq0.false)

pub returns : goal.returns
returns c =
    let ms = c.args.marks.now in
    sym (c.loop-p.invariant ∙ first_none (unmarked ms) c.args.n c.loop-p.p (omega arith))
