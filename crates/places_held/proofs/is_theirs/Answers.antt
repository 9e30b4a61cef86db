-- Without the two, as many have the pointer as all but them.
use Rattle.std.proofs.Common.{◌&&◌, ◌+◌, get_or, not, rules}
use Rattle.places.proofs.HeldSearch.{bit_most, theirs_free}
use lib.Dec.{eqb}
use Rattle.places_held.proofs.is_theirs.Goals as goal

pub overflow_add-result : goal.overflow_add-result
overflow_add-result c =
    let s = c.args in
    let b = s.bytes.now in
    let m = bit_most (eqb (get_or b (s.cell + 1) 0) s.v) in
    let n = bit_most (eqb (get_or b (s.pointer + 1) 0) s.v && not (eqb s.cell s.pointer)) in
    search rules

pub returns : goal.returns
returns c =
    let s = c.args in
    theirs_free s.bytes.now s.cell s.pointer s.v c.requires.1 c.requires.2 c.requires.3 c.users.ensures
