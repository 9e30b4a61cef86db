-- The explanation on the places lent, packed.
use Rattle.std.proofs.Common.{arith, sym}
use Rattle.wire.specs.Numbers.{Bytes}
use Rattle.rail.proofs.Explanations.{explain_export}
use Rattle.rail.proofs.reasons.rail_explain.Goals as goal

pub returns : goal.returns
returns c =
    let bytes : Bytes c.args.order.now = record { small = λ i. omega (arith, c.shared_slice_known-9-1.given i) } in
    explain_export c.args.order.now _ (bytes) (c.explain-x.ensures _ (sym c.places-lent.ensures)) c.packed.ensures
