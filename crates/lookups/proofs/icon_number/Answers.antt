-- The number of its slot and of the icon, or that of no holder.
use Rattle.std.proofs.Common.{◌<◌, arith}
use Rattle.session.proofs.Targets.{icon_found, icon_below}
use Rattle.lookups.proofs.icon_number.Goals as goal

pub returns-in_default : goal.returns-in_default
returns-in_default c =
    let a = c.args in icon_found a.d.now a.family a.window.id a.notify.id c.find.ensures c.in_default.is a.w c.requires.1

pub overflow_mul-result : goal.overflow_mul-result
overflow_mul-result c =
    let below : c.in-Some.i < 48 = (let a = c.args in icon_below a.d.now a.family a.window.id a.notify.id c.find.ensures c.in-Some.is) in
    omega (arith, below)

pub overflow_add-result : goal.overflow_add-result
overflow_add-result c =
    let below : c.in-Some.i < 48 = (let a = c.args in icon_below a.d.now a.family a.window.id a.notify.id c.find.ensures c.in-Some.is) in
    omega (arith, below)

pub overflow_add-result-2 : goal.overflow_add-result-2
overflow_add-result-2 c =
    let below : c.in-Some.i < 48 = (let a = c.args in icon_below a.d.now a.family a.window.id a.notify.id c.find.ensures c.in-Some.is) in
    omega (arith, below, c.requires.1)

pub returns : goal.returns
returns c =
    let a = c.args in icon_found a.d.now a.family a.window.id a.notify.id c.find.ensures c.in-Some.is a.w c.requires.1
