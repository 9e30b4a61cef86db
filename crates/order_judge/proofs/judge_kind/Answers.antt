-- The fields are cut.
use Rattle.order.proofs.Verdicts.{rows_cut}
use Rattle.order.specs.Judge.{kind_rows}
use Rattle.order_judge.proofs.judge_kind.Goals as goal

pub returns-in-Short : goal.returns-in-Short
returns-in-Short c =
    let a = c.args in rows_cut (kind_rows a.flags) a.flags a.s.now c.fields_end-f.ensures.0 c.in-Short.is c.fault.ensures
