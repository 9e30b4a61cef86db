-- n counts those of the holders before h that have the pointer.
use Rattle.std.proofs.Common.{◌+◌, arith, get_or, rules}
use Rattle.places.specs.Memory.{pointer_at}
use Rattle.places.proofs.HeldSearch.{bit_most, users_none, users_next}
use lib.Dec.{eqb}
use Rattle.places_held.proofs.users.Goals as goal

pub loop-h-init : goal.loop-h-init
loop-h-init c = (search rules, users_none (pointer_at c.args.bytes.now) c.args.v)

pub overflow_add-n-in-loop-h : goal.overflow_add-n-in-loop-h
overflow_add-n-in-loop-h c =
    let w = c.loop-h in
    let m = bit_most (eqb (get_or c.args.bytes.now (w.h + 1) 0) c.args.v) in
    search rules

pub loop-h-preserved : goal.loop-h-preserved
loop-h-preserved c =
    let w = c.loop-h in
    let s = c.args in
    let m = bit_most (eqb (get_or s.bytes.now (w.h + 1) 0) s.v) in
    (omega (arith, m, w.invariant.0), users_next s.bytes.now w.h w.n s.v (omega arith) w.invariant.1)
