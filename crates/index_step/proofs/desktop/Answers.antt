-- Desktop none clears the index; any other desktop order leaves it.
use Rattle.std.proofs.Common.{refl}
use Rattle.index.proofs.Ways.{applied_none, applied_desktop}
use Rattle.index.proofs.StepsOfPlans.{steps_full, steps_done}
use Rattle.index.specs.declared.Plan.TheVariants.{ChangeDesktop}
use Rattle.index_step.proofs.desktop.Goals as goal

pub returns-then-full : goal.returns-then-full
returns-then-full c =
    let a = c.args in
    steps_full a.full a.index.now (ChangeDesktop a.flags) refl c.if-full.true c.no_slot.ensures

pub returns-then-flags-ne0 : goal.returns-then-flags-ne0
returns-then-flags-ne0 c =
    let a = c.args in
    steps_done a.full a.index.now (ChangeDesktop a.flags) refl c.if-full.false c.no_slot-then-flags-ne0.ensures (applied_none a.index.now refl c.if-flags-ne0.true c.clear.ensures)

pub returns : goal.returns
returns c =
    let a = c.args in
    steps_done a.full a.index.now (ChangeDesktop a.flags) refl c.if-full.false c.no_slot-2.ensures (applied_desktop a.index.now refl c.if-flags-ne0.false)
