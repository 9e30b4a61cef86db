-- The second half is searched where the first has nothing.
use Rattle.std.proofs.Common.{arith}
use Rattle.slots.proofs.Ways.{looked_most, half_found, half_none}
use Rattle.slots.specs.Slots.{is_at}
use Rattle.slots.proofs.search_windows.Goals as goal

pub overflow_add-result : goal.overflow_add-result
overflow_add-result c =
    let a = c.args in
    omega (arith, looked_most (is_at a.index.now a.a a.b) 16 16 c.search-g.ensures)

pub returns-in-Some : goal.returns-in-Some
returns-in-Some c =
    let a = c.args in
    half_found (is_at a.index.now a.a a.b) c.search-f.ensures c.in-Some.is

pub returns-in-None : goal.returns-in-None
returns-in-None c =
    let a = c.args in
    half_none (is_at a.index.now a.a a.b) c.search-f.ensures c.in-None.is c.search-g.ensures
