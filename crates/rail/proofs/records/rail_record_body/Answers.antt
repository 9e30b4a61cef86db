-- Offset and size fit 16 bits each; where there is no body both are 0.
use Rattle.std.proofs.Common.{arith, refl}
use Rattle.rail.proofs.RecordExports.{place_low, body_none, body_export}
use Rattle.rail.proofs.records.rail_record_body.Goals as goal

pub returns-in_default : goal.returns-in_default
returns-in_default c = body_none _ _ c.in_default.ensures

pub overflow_cast-result : goal.overflow_cast-result
overflow_cast-result c = omega (arith, place_low _ _ c.in-Some.ensures)

pub overflow_cast-result-2 : goal.overflow_cast-result-2
overflow_cast-result-2 c = omega (arith, place_low _ _ c.in-Some.ensures)

pub overflow_mul-result : goal.overflow_mul-result
overflow_mul-result c = omega (arith, place_low _ _ c.in-Some.ensures)

pub overflow_add-result : goal.overflow_add-result
overflow_add-result c = omega (arith, place_low _ _ c.in-Some.ensures)

pub returns : goal.returns
returns c = body_export _ _ c.in-Some.ensures refl
