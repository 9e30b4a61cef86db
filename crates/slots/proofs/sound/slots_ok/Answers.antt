-- The slots before i are in order and have their marks; those from i on are still to be tested.
use Rattle.std.proofs.Common.{◌+◌, ◌∙◌, arith, sym}
use Rattle.slots.proofs.Ways.{ok_start, ok_stop, ok_next, ok_done}
use Rattle.slots.proofs.Once.{none_seen}
use Rattle.slots.specs.Sound.{slot_ok}
use Rattle.slots.proofs.sound.slots_ok.Goals as goal

pub loop-i-init : goal.loop-i-init
loop-i-init c =
    let a = c.args in
    (omega arith, none_seen a.index.now a.first, ok_start (slot_ok a.index.now a.first a.count a.top) a.first a.count)

pub returns-then-not-slot_ok : goal.returns-then-not-slot_ok
returns-then-not-slot_ok c =
    let a = c.args in
    sym (c.loop-i.invariant.2 ∙ ok_stop (slot_ok a.index.now a.first a.count a.top) (a.first + a.count) c.loop-i.i c.loop-i-test.true c.slot_ok.ensures.value c.if-not-slot_ok.true)

pub loop-i-preserved : goal.loop-i-preserved
loop-i-preserved c =
    let a = c.args in
    let good = c.if-not-slot_ok.false in (
      omega arith,
      c.slot_ok.ensures.seen_2 good,
      c.loop-i.invariant.2 ∙ ok_next (slot_ok a.index.now a.first a.count a.top) (a.first + a.count) c.loop-i.i c.loop-i-test.true c.slot_ok.ensures.value good,
    )

pub returns : goal.returns
returns c =
    let a = c.args in
    sym (c.loop-i.invariant.2 ∙ ok_done (slot_ok a.index.now a.first a.count a.top) (a.first + a.count) c.loop-i.i (omega arith))
