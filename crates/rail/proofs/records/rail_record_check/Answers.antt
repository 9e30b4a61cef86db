-- What is told of the record fits a reply, which is packed.
use Rattle.std.proofs.Common.{ℕ, ◌∙◌, ap, arith}
use Rattle.record.proofs.Handing.{told_small}
use Rattle.session.specs.Packed.{packed_of}
use Rattle.rail.proofs.RecordExports.{check_granted, check_refused}
use Rattle.rail.proofs.records.rail_record_check.Goals as goal

pub overflow_cast-count : goal.overflow_cast-count
overflow_cast-count c = omega (arith, (told_small _ _ c.in-Ok.ensures).0)

pub overflow_cast-size : goal.overflow_cast-size
overflow_cast-size c = omega (arith, (told_small _ _ c.in-Ok.ensures).1)

pub returns-in-Err : goal.returns-in-Err
returns-in-Err c =
    check_refused _ _ c.in-Err.ensures (c.packed.ensures ∙ ap (λ (n : ℕ). packed_of (record { number = n; count = 0; bytes = 0 })) c.from.ensures)

pub returns : goal.returns
returns c = check_granted _ _ c.in-Ok.ensures c.packed-2.ensures
