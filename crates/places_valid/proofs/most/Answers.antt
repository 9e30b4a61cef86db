-- m is the largest of the pointers before h.
use Rattle.std.proofs.Common.{◌+◌, arith, get_or}
use Rattle.places.specs.Memory.{pointer_at}
use Rattle.places.proofs.Bytes.{inside}
use Rattle.places.proofs.Rule.{most_none, most_next}
use Rattle.places_valid.proofs.most.Goals as goal

pub loop-h-init : goal.loop-h-init
loop-h-init c = most_none (pointer_at c.args.bytes.now)

pub loop-h-preserved : goal.loop-h-preserved
loop-h-preserved c =
    let w = c.loop-h in
    let b = c.args.bytes.now in
    most_next (pointer_at b) w.h w.m (get_or b (w.h + 1) 0) c.larger-m.result (inside b w.h (omega arith)) c.larger-m.ensures w.invariant
