-- Every place of the groups before g passed.
use Rattle.std.proofs.Common.{◌*◌, ◌+◌, ◌-◌, ◌∙◌, ◌≡◌, arith, rules, sym, true}
use Rattle.table.specs.Memory.{marked_ok}
use Rattle.table.proofs.Ways.{each_none, each_fewer, each_all}
use Rattle.table_sound.proofs.places_ok.Goals as goal

pub loop-g-init : goal.loop-g-init
loop-g-init c = let a = c.args in (search rules, each_none (marked_ok a.marks.now a.bodies.now))

pub group_ok-requires : goal.group_ok-requires
group_ok-requires c = (c.requires, omega (arith, c.loop-g-test.true), c.loop-g.invariant.1)

pub returns-then-not-group_ok : goal.returns-then-not-group_ok
returns-then-not-group_ok c =
    let a = c.args in
    each_fewer (marked_ok a.marks.now a.bodies.now) 64 (8 * c.loop-g.g + 8) (omega (arith, c.loop-g-test.true)) c.group_ok.ensures (c.if-not-group_ok.true)

pub loop-g-preserved : goal.loop-g-preserved
loop-g-preserved c =
    let n : 8 * (c.loop-g.g + 1) ≡ 8 * c.loop-g.g + 8 = omega arith in
    (search rules, rw n (sym c.group_ok.ensures ∙ c.if-not-group_ok.false))

pub returns : goal.returns
returns c =
    let a = c.args in
    each_all (marked_ok a.marks.now a.bodies.now) 64 (8 * c.loop-g.g) (omega (arith, c.loop-g.invariant.0)) (omega (arith, c.loop-g-test.false)) c.loop-g.invariant.1
