-- Each byte of the number that is read is a field, and its row says which numbers it takes.
use Rattle.std.proofs.Common.{arith}
use Rattle.body_rule.proofs.Ways.{last_bytes}
use Rattle.wire.proofs.Numbers.{Bytes}
use Rattle.body_rule.proofs.last_bytes.Goals as goal

pub returns : goal.returns
returns c =
    let bytes : Bytes c.args.slot.now = record { small = λ i. omega (arith, c.shared_slice_known-1.given i) } in
    last_bytes c.args.slot.now c.read_u32-v.result (bytes) c.read_u32-v.ensures c.takes-a.ensures c.takes-b.ensures c.takes-c.ensures c.takes-d.ensures
