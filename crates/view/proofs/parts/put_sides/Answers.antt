-- After i turns the first i numbers stand before zeros.
use Rattle.std.proofs.Common.{ℕ, ◌-◌, ◌∙◌, ◌≡◌, ap, arith, length, length-set, rules}
use Rattle.wire.specs.Parts.{padded}
use Rattle.view.specs.Views.{each_of}
use Rattle.view.proofs.ViewsRead.{fill_first, fill_next}
use Rattle.view.proofs.parts.put_sides.Goals as goal

pub loop-i-init : goal.loop-i-init
loop-i-init c =
    let a = c.args in
    let p = c.requires.2 in
    (search rules, ap (λ x. length x) p, p ∙ fill_first (λ v. v) 2 0 64 a.s.now a.at)

pub loop-i-preserved : goal.loop-i-preserved
loop-i-preserved c =
    let a = c.args in (
      search rules,
      simp length-set c.loop-i.invariant.1,
      fill_next (λ v. v) 2 0 64 a.s.now a.at c.loop-i.i (omega arith) c.loop-i.invariant.2 c.read_u16.ensures,
    )

pub returns : goal.returns
returns c =
    let a = c.args in
    let e : c.loop-i.i ≡ a.n = omega arith in
    c.loop-i.invariant.2 ∙ ap (λ (k : ℕ). padded 0 64 (each_of (λ v. v) 2 k a.s.now a.at)) e
