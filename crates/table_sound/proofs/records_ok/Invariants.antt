use Rattle.std.proofs.Common.{◌-◌, ◌≡◌, ◌≤◌}
use Rattle.slots.specs.Sound.{each_from}
use Rattle.rows.specs.Rows.{rows_from}
use Rattle.table.specs.Memory.{record_ok}
use Rattle.table_sound.proofs.records_ok.Given as goal

abbrev pub invariant-loop-i : goal.invariant-loop-i
invariant-loop-i l = (l.i ≤ l.end) × (l.end ≤ 48) × (each_from l.count l.first (record_ok (rows_from l.low l.high) l.index l.bodies) ≡ each_from (l.end - l.i) l.i (record_ok (rows_from l.low l.high) l.index l.bodies))

abbrev pub decreases-loop-i : goal.decreases-loop-i
decreases-loop-i l = l.end - l.i
