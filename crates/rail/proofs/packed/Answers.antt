-- Neither passes its place.
use Rattle.std.proofs.Common.{◌∙◌, arith}
use Rattle.rail.proofs.Exports.{packed_bytes, packed_number}
use Rattle.rail.proofs.packed.Goals as goal

pub overflow_cast-result : goal.overflow_cast-result
overflow_cast-result c = omega (arith, c.requires.bytes_fit _ c.in-Ok.is)

pub overflow_mul-result : goal.overflow_mul-result
overflow_mul-result c = omega (arith, c.requires.bytes_fit _ c.in-Ok.is)

pub returns-in-Ok : goal.returns-in-Ok
returns-in-Ok c = packed_bytes (c.requires.bytes_fit _ c.in-Ok.is) c.in-Ok.is

pub returns-in-Err : goal.returns-in-Err
returns-in-Err c = c.from.ensures ∙ packed_number c.in-Err.is
