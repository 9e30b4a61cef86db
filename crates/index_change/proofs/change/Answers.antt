-- A deleted record goes; a new one is listed before its picture is set.
use Rattle.std.proofs.Common.{rules}
use Rattle.index.proofs.Ways.{changed_deleted, changed_new, changed_old}
use Rattle.index_change.proofs.change.Goals as goal

pub remove-requires : goal.remove-requires
remove-requires c = (search rules, c.requires.1.slot)

pub returns-then-c : goal.returns-then-c
returns-then-c c =
    let a = c.args in
    changed_deleted a.index.now a.c c.if-c.true c.remove.ensures

pub list-requires : goal.list-requires
list-requires c = (search rules, c.requires.1.slot)

pub picture-requires : goal.picture-requires
picture-requires c = (search rules, c.requires.1)

pub returns-then-c-2 : goal.returns-then-c-2
returns-then-c-2 c =
    let a = c.args in
    changed_new a.index.now a.c c.if-c.false c.if-c-2.true c.list.ensures c.picture.ensures

pub picture-requires-2 : goal.picture-requires-2
picture-requires-2 c = (search rules, c.requires.1)

pub returns : goal.returns
returns c =
    let a = c.args in
    changed_old a.index.now a.c c.if-c.false c.if-c-2.false c.picture-2.ensures
