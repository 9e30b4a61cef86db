-- The number of the plan; else 12; else 0.
use Rattle.explain.proofs.Answers.{table_refused, table_full_lem, table_done}
use Rattle.explain_call.proofs.on_table.Goals as goal

pub returns-then-number-ne0 : goal.returns-then-number-ne0
returns-then-number-ne0 c =
    let a = c.args in
    table_refused a.d.now a.s.now a.w c.judge-p.ensures c.number-number.ensures c.if-number-ne0.true

pub returns-then-w-s : goal.returns-then-w-s
returns-then-w-s c =
    let a = c.args in
    table_full_lem a.d.now a.s.now a.w c.judge-p.ensures c.number-number.ensures c.if-number-ne0.false c.if-w-s.true

pub returns : goal.returns
returns c =
    let a = c.args in
    table_done a.d.now a.s.now a.w c.judge-p.ensures c.number-number.ensures c.if-number-ne0.false c.if-w-s.false
