-- The parts lent are those slices.
use Rattle.std.proofs.Common.{ℕ, ◌-◌, ◌∙◌, ◌≡◌, ap, arith}
use Rattle.wire.specs.Parts.{slice}
use Rattle.journal.specs.View.{memory}
use Rattle.explain.specs.Explain.{explain}
use Rattle.explain_call.proofs.explain_at.Goals as goal

pub returns : goal.returns
unfolding slice
returns c p is =
    let a = c.args in
    let f = a.state.now in
    let from : a.i - 0 ≡ a.i = omega arith in
    c.explain.ensures p is ∙ ap (λ (n : ℕ). explain a.s.now (memory (slice f 0 n) (slice f a.i (a.j - a.i)) p (slice f a.j (a.k - a.j)))) from
