-- Removed, listed or left, as the definition has it.
use Rattle.index.proofs.StepsOfPlans.{slot_full, slot_removed, slot_listed, slot_same}
use Rattle.index_step.proofs.slot.Goals as goal

pub returns-then-full : goal.returns-then-full
returns-then-full c = let a = c.args in slot_full a.full a.index.now a.o a.i c.if-full.true

pub returns-then-o-ne0 : goal.returns-then-o-ne0
returns-then-o-ne0 c =
    let a = c.args in
    slot_removed a.full a.index.now a.o a.i c.if-full.false c.if-o-ne0.true c.remove.ensures

pub returns-then-fresh : goal.returns-then-fresh
returns-then-fresh c =
    let a = c.args in
    slot_listed a.full a.index.now a.o a.i c.if-full.false c.if-o-ne0.false c.requires.2 c.if-fresh.true c.list.ensures

pub returns : goal.returns
returns c =
    let a = c.args in
    slot_same a.full a.index.now a.o a.i c.if-full.false c.if-o-ne0.false c.requires.2 c.if-fresh.false
