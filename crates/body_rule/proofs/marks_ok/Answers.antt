-- Each byte of the number that is read is a mark.
use Rattle.std.proofs.Common.{arith}
use Rattle.body_rule.proofs.Ways.{marks_told}
use Rattle.wire.proofs.Numbers.{Bytes}
use Rattle.body_rule.proofs.marks_ok.Goals as goal

pub returns : goal.returns
returns c =
    let bytes : Bytes c.args.slot.now = record { small = λ i. omega (arith, c.shared_slice_known-1.given i) } in
    let a = c.args in
    marks_told a.slot.now a.m a.n c.read_u16-v.result (bytes) c.read_u16-v.ensures
