-- `met`: the rectangles passed so far leave the box alone, so what the first n leave of it is what the first k leave. Assumes nothing.
use Rattle.std.proofs.Common.{ℕ, ◌-◌, ◌∙◌, ◌≡◌, ap, arith, refl, rules, sym}
use Rattle.area.specs.Cutting.{left_over}
use Rattle.area.proofs.Steps.{tells, one_less}
use Rattle.area.proofs.met.Goals as goal

pub loop-k-init : goal.loop-k-init
loop-k-init c = (search rules, refl)

pub returns-then-meet : goal.returns-then-meet
returns-then-meet c =
    let a = c.args in
    let e = tells a.s.now (c.loop-k.k - 1) a.q c.rect_at.ensures c.meet.ensures in
    record { below = c.loop-k.invariant.0; same = c.loop-k.invariant.1; hit = λ h. sym e ∙ c.if-meet.true }

pub loop-k-preserved : goal.loop-k-preserved
loop-k-preserved c =
    let a = c.args in
    let e = tells a.s.now (c.loop-k.k - 1) a.q c.rect_at.ensures c.meet.ensures in
    (omega arith, c.loop-k.invariant.1 ∙ one_less a.s.now c.loop-k.k a.q (omega arith) (sym e ∙ c.if-meet.false))

pub returns : goal.returns
returns c =
    let a = c.args in
    let e : c.loop-k.k ≡ 0 = omega arith in
    record { below = omega arith; same = c.loop-k.invariant.1 ∙ ap (λ (k : ℕ). left_over a.s.now k a.q) e; hit = λ h. absurd (omega arith) }
