-- The words that reading leaves stand for the record, a refusal is that of reading, and what was read is written back.
use Rattle.std.proofs.Common.{◌∙◌, ap, Ok, arith}
use Rattle.wire.proofs.Numbers.{Bytes}
use Rattle.pdu_read.proofs.Ways.{outcome}
use Rattle.pdu_read.proofs.Answers.{is_granted, is_refused}
use Rattle.pdu_read_record.proofs.read_pdu.Goals as goal

pub record_from-requires : goal.record_from-requires
record_from-requires c =
    let bytes : Bytes c.args.s.now = record { small = λ i. omega (arith, c.type_inv.s i) } in
    (is_granted bytes c.read.ensures c.in-Ok.is).0

pub returns-in-Ok : goal.returns-in-Ok
returns-in-Ok c =
    let bytes : Bytes c.args.s.now = record { small = λ i. omega (arith, c.type_inv.s i) } in
    outcome c.args.s.now _ bytes (ap Ok c.record_from.ensures ∙ (is_granted bytes c.read.ensures c.in-Ok.is).1)

pub returns-in-Err : goal.returns-in-Err
returns-in-Err c =
    let bytes : Bytes c.args.s.now = record { small = λ i. omega (arith, c.type_inv.s i) } in
    outcome c.args.s.now _ bytes (is_refused bytes c.read.ensures c.in-Err.is)
