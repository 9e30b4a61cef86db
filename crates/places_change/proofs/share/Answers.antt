-- One byte is copied.
use Rattle.std.proofs.Common.{rules}
use Rattle.places.proofs.Ways.{shared}
use Rattle.places_change.proofs.share.Goals as goal

pub returns : goal.returns
returns c = shared c.args.bytes.now c.args.pointer c.args.cell (search rules)
