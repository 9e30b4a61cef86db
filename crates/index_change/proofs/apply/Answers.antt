-- The plan chooses the change.
use Rattle.std.proofs.Common.{rules}
use Rattle.index.proofs.Ways.{plan_fits, applied_record, applied_none, applied_desktop, applied_refused}
use Rattle.index_change.proofs.apply.Goals as goal

pub change-requires : goal.change-requires
change-requires c = (search rules, plan_fits c.args.index.now c.in-ChangeRecord.is c.requires.1)

pub returns-in-ChangeRecord : goal.returns-in-ChangeRecord
returns-in-ChangeRecord c =
    let a = c.args in
    applied_record a.index.now c.in-ChangeRecord.is c.change.ensures

pub returns-then-flags-ne0 : goal.returns-then-flags-ne0
returns-then-flags-ne0 c =
    let a = c.args in
    applied_none a.index.now c.in-ChangeDesktop.is c.if-flags-ne0.true c.clear.ensures

pub returns-else-flags-ne0 : goal.returns-else-flags-ne0
returns-else-flags-ne0 c =
    let a = c.args in
    applied_desktop a.index.now c.in-ChangeDesktop.is c.if-flags-ne0.false

pub returns-in-Refuse : goal.returns-in-Refuse
returns-in-Refuse c =
    let a = c.args in
    applied_refused a.index.now c.in-Refuse.is
