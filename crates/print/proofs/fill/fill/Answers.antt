-- From turn to turn, what lays the rest of the template lays all of it.
use Rattle.std.proofs.Common.{◌-◌, ◌∙◌, refl, rules}
use Rattle.print.proofs.Templates.{all_left, next_left, none_left}
use Rattle.print.proofs.Signs.{read_back}
use Rattle.print.proofs.fill.fill.Goals as goal

pub loop-i-init : goal.loop-i-init
loop-i-init c =
    let a = c.args in (all_left a.template.now a.ns.now a.zs.now a.out.now a.at, search rules, search rules, search rules, search rules)

pub loop-i-preserved : goal.loop-i-preserved
loop-i-preserved c =
    let a = c.args in (
      next_left a.template.now a.ns.now a.zs.now a.out.now a.at c.loop-i.out c.loop-i.n c.loop-i.k c.loop-i.j c.loop-i.i c.loop-i.invariant.0 _ _ c.loop-i-test.true refl c.number.ensures (read_back c.signed.result c.signed.type_inv ∙ c.signed.ensures) c.stand_for-n.ensures c.after-k.ensures.0 c.after-j.ensures.0,
      search rules,
      search rules,
      search rules,
      search rules,
    )

pub returns : goal.returns
returns c =
    let a = c.args in none_left a.template.now a.ns.now a.zs.now a.out.now a.at c.loop-i.out c.loop-i.n c.loop-i.k c.loop-i.j c.loop-i.i c.loop-i.invariant.0 c.loop-i-test.false
