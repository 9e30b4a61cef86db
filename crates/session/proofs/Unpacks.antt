-- A packed reply is taken apart again. Assumes nothing.
use mathlib.Core.Path.{◌≡◌}
use Prim.Native.Nat.{◌%◌}
use native.Mathlib.Omega.{arith}
use Rattle.session.specs.Packed.{packed_of, Unpacks}

pub unpacks : Unpacks
unfolding Unpacks packed_of
unpacks r a b c =
    let x : r.count % 256 ≡ r.count = omega arith in
    let y : r.bytes % 65536 ≡ r.bytes = omega arith in
    record { number = rw (x, y) (omega arith); count = rw (x, y) (omega arith); bytes = rw (x, y) (omega arith) }
