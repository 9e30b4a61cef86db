-- Where there is room, the change is that of the plan.
use Rattle.std.proofs.Common.{ℕ, ap, refl}
use Rattle.index.proofs.Ways.{applied_record}
use Rattle.index.proofs.StepsOfPlans.{steps_full, steps_done}
use Rattle.index.specs.declared.Plan.TheVariants.{ChangeRecord}
use Rattle.index_step.proofs.carry_out.Goals as goal

pub returns-then-full : goal.returns-then-full
returns-then-full c =
    let a = c.args in
    steps_full a.full a.index.now (ChangeRecord a.c) refl c.if-full.true refl

pub returns : goal.returns
returns c =
    let a = c.args in
    steps_done a.full a.index.now (ChangeRecord a.c) refl c.if-full.false (ap (λ (n : ℕ). record { number = 0; slot = a.c.slot; held = n }) c.held_after-held.ensures) (applied_record a.index.now refl c.change.ensures)
