-- Fresh is given as the definition has it; the others are copied.
use Rattle.index.proofs.PlansMade.{change_is}
use Rattle.index_plan.proofs.change_at.Goals as goal

pub returns : goal.returns
returns c =
    let a = c.args in
    change_is a.o a.i a.cell a.pointer a.place c.requires
