-- Places with no mark pass; else every place before p passed.
use Rattle.std.proofs.Common.{◌+◌, ◌-◌, ◌∙◌, arith, rules, sym, true}
use Rattle.table.specs.Memory.{marked_ok}
use Rattle.table.proofs.Ways.{each_next, each_fails, each_more, each_all}
use Rattle.table.proofs.HeadsOnce.{group_none}
use Rattle.table_sound.proofs.group_ok.Goals as goal

pub returns-then-is_unmarked : goal.returns-then-is_unmarked
returns-then-is_unmarked c =
    let a = c.args in
    let k = sym c.is_unmarked.ensures ∙ c.if-is_unmarked.true in
    sym (each_more (marked_ok a.marks.now a.bodies.now) (a.from + 8) a.from (group_none a.marks.now a.bodies.now a.from (a.from + 1 + 8 - (a.from + 1)) (omega arith) k) c.requires.2)

pub loop-p-init : goal.loop-p-init
loop-p-init c = (search rules, c.requires.2)

pub returns-then-not-place_ok : goal.returns-then-not-place_ok
returns-then-not-place_ok c =
    let a = c.args in
    each_fails (marked_ok a.marks.now a.bodies.now) (a.from + 8) c.loop-p.p c.loop-p-test.true c.place_ok.ensures (c.if-not-place_ok.true)

pub loop-p-preserved : goal.loop-p-preserved
loop-p-preserved c =
    let a = c.args in
    (search rules, each_next (marked_ok a.marks.now a.bodies.now) c.loop-p.p c.loop-p.invariant.1 c.place_ok.ensures (c.if-not-place_ok.false))

pub returns : goal.returns
returns c =
    let a = c.args in
    each_all (marked_ok a.marks.now a.bodies.now) (a.from + 8) c.loop-p.p c.loop-p.invariant.0 c.loop-p-test.false c.loop-p.invariant.1
