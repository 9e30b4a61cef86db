use Rattle.std.proofs.Common.{◌+◌, ◌-◌, ◌≡◌, ◌≤◌, length, true}
use Rattle.layout.specs.Layouts.{fields_bytes}
use Rattle.body.specs.Bodies.{fields_of, fields_ok}
use Rattle.body.specs.Stores.{room_all}
use Rattle.rows.specs.Rows.{rows_from}
use Rattle.wire.specs.Parts.{splice}
use Rattle.layout.proofs.record.Given as goal

abbrev pub invariant-loop-k : goal.invariant-loop-k
invariant-loop-k l = (l.k ≤ l.high) × (length l.out ≡ length l.initial.out) × (l.off + room_all (rows_from l.k l.high) ≤ length l.out) × (l.off + room_all (rows_from l.k l.high) ≤ length l.slot)
    × (fields_ok (rows_from l.k l.high) l.off l.slot ≡ true)
    × (splice l.initial.out 2 (fields_bytes (rows_from l.low l.high) (fields_of (rows_from l.low l.high) 2 l.slot))
    ≡ splice l.out l.off (fields_bytes (rows_from l.k l.high) (fields_of (rows_from l.k l.high) l.off l.slot)))

abbrev pub decreases-loop-k : goal.decreases-loop-k
decreases-loop-k l = l.high - l.k
