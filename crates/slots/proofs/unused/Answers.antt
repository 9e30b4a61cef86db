-- The slots before i have records; those from i on are still to be searched.
use Rattle.std.proofs.Common.{◌+◌, ◌∙◌, arith, refl, sym}
use Rattle.slots.proofs.Ways.{first_start, first_here, first_next, first_none, slot_unused, slot_taken}
use Rattle.slots.specs.Slots.{is_free}
use Rattle.slots.proofs.unused.Goals as goal

pub loop-i-init : goal.loop-i-init
loop-i-init c = let a = c.args in first_start (is_free a.index.now) a.first a.count

pub returns-then-index-i-ne1 : goal.returns-then-index-i-ne1
returns-then-index-i-ne1 c =
    let a = c.args in
    sym (c.loop-i.invariant ∙ first_here (is_free a.index.now) (a.first + a.count) c.loop-i.i c.loop-i-test.true refl (slot_unused a.index.now c.loop-i.i c.if-index-i-ne1.true))

pub loop-i-preserved : goal.loop-i-preserved
loop-i-preserved c =
    let a = c.args in
    c.loop-i.invariant ∙ first_next (is_free a.index.now) (a.first + a.count) c.loop-i.i c.loop-i-test.true refl (slot_taken a.index.now c.loop-i.i c.if-index-i-ne1.false)

pub returns : goal.returns
returns c =
    let a = c.args in
    sym (c.loop-i.invariant ∙ first_none (is_free a.index.now) (a.first + a.count) c.loop-i.i (omega arith))
