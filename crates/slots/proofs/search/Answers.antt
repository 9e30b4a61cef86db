-- The slots before i have other ids; those from i on are still to be searched.
use Rattle.std.specs.Prelude.{Some, None}
use Rattle.std.proofs.Common.{◌+◌, ◌∙◌, arith}
use Rattle.slots.proofs.Ways.{first_start, first_here, first_next, first_none, search_is}
use Rattle.slots.specs.Slots.{is_at}
use Rattle.slots.proofs.search.Goals as goal

pub loop-i-init : goal.loop-i-init
loop-i-init c = let a = c.args in (omega arith, first_start (is_at a.index.now a.a a.b) a.first a.count)

pub returns-then-is_at : goal.returns-then-is_at
returns-then-is_at c =
    let a = c.args in
    search_is (is_at a.index.now a.a a.b) a.first a.count (Some c.loop-i.i)
    (c.loop-i.invariant.1 ∙ first_here (is_at a.index.now a.a a.b) (a.first + a.count) c.loop-i.i c.loop-i-test.true c.is_at.ensures c.if-is_at.true)

pub loop-i-preserved : goal.loop-i-preserved
loop-i-preserved c =
    let a = c.args in
    (omega arith, c.loop-i.invariant.1 ∙ first_next (is_at a.index.now a.a a.b) (a.first + a.count) c.loop-i.i c.loop-i-test.true c.is_at.ensures c.if-is_at.false)

pub returns : goal.returns
returns c =
    let a = c.args in
    search_is (is_at a.index.now a.a a.b) a.first a.count None
    (c.loop-i.invariant.1 ∙ first_none (is_at a.index.now a.a a.b) (a.first + a.count) c.loop-i.i (omega arith))
