-- Two bytes are written.
use Rattle.std.proofs.Common.{◌+◌, arith, length-set}
use Rattle.places.proofs.Ways.{two_points}
use Rattle.places_change.proofs.take_at.Goals as goal

pub bounds-bytes-pointer : goal.bounds-bytes-pointer
bounds-bytes-pointer c = simp length-set (omega arith)

pub returns : goal.returns
returns c = two_points c.args.bytes.now c.args.cell c.args.pointer (c.args.place + 1)
