-- The search and, for a new record, the search for a free slot decide which line of the definition holds.
use Rattle.std.proofs.Common.{refl}
use Rattle.slots.proofs.Ways.{found_is}
use Rattle.slots.specs.Families.{start, capacity}
use Rattle.slots.specs.Slots.{is_at}
use Rattle.index.proofs.PlansMade.{place_listed, place_own, place_absent, place_full, place_new}
use Rattle.index_plan.proofs.searched_slot.Goals as goal

pub returns-then-fresh : goal.returns-then-fresh
returns-then-fresh c =
    let a = c.args in
    place_listed a.index.now a.family a.window.id a.notify.id a.fresh (found_is (is_at a.index.now a.window.id a.notify.id) (start a.family) (capacity a.family) c.find.ensures refl) c.in-Some.is c.if-fresh.true

pub returns-then-not-fresh : goal.returns-then-not-fresh
returns-then-not-fresh c =
    let a = c.args in
    place_absent a.index.now a.family a.window.id a.notify.id a.fresh (found_is (is_at a.index.now a.window.id a.notify.id) (start a.family) (capacity a.family) c.find.ensures refl) c.in-None.is (c.if-not-fresh.true)

pub returns-in_default : goal.returns-in_default
returns-in_default c =
    let a = c.args in
    place_full a.index.now a.family a.window.id a.notify.id a.fresh (found_is (is_at a.index.now a.window.id a.notify.id) (start a.family) (capacity a.family) c.find.ensures refl) c.in-None.is (c.if-not-fresh.false) c.free.ensures c.in_default.is

pub returns-else-fresh : goal.returns-else-fresh
returns-else-fresh c =
    let a = c.args in
    place_own a.index.now a.family a.window.id a.notify.id a.fresh (found_is (is_at a.index.now a.window.id a.notify.id) (start a.family) (capacity a.family) c.find.ensures refl) c.in-Some.is c.if-fresh.false

pub returns-in-Some-free : goal.returns-in-Some-free
returns-in-Some-free c =
    let a = c.args in
    place_new a.index.now a.family a.window.id a.notify.id a.fresh (found_is (is_at a.index.now a.window.id a.notify.id) (start a.family) (capacity a.family) c.find.ensures refl) c.in-None.is (c.if-not-fresh.false) c.free.ensures c.in-Some-free.is
