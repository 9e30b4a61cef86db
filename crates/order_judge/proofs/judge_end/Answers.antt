-- The picture is cut, ends elsewhere, or has a number outside its set.
use Rattle.order.proofs.Verdicts.{end_cut, end_over, end_bad}
use Rattle.order_judge.proofs.judge_end.Goals as goal

pub returns-then-end-s : goal.returns-then-end-s
returns-then-end-s c =
    let a = c.args in end_over a.flags a.s.now a.icon a.bad c.picture-f.ensures.0 c.in-Ends.is c.if-end-s.true c.fault-then-end-s.ensures

pub returns-then-first-ne0 : goal.returns-then-first-ne0
returns-then-first-ne0 c =
    let a = c.args in end_bad a.flags a.s.now a.icon a.bad c.picture-f.ensures.0 c.in-Ends.is c.if-end-s.false c.if-first-ne0.true c.fault-then-first-ne0.ensures

pub returns-in-Short : goal.returns-in-Short
returns-in-Short c = let a = c.args in end_cut a.flags a.s.now a.icon a.bad c.picture-f.ensures.0 c.in-Short.is c.fault.ensures
