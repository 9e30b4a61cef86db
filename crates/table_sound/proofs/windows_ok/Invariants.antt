use Rattle.std.proofs.Common.{◌-◌, ◌≡◌, ◌≤◌}
use Rattle.slots.specs.Sound.{each_from}
use Rattle.rows.specs.Rows.{rows_from}
use Rattle.table.specs.Memory.{record_ok}
use Rattle.table_sound.proofs.windows_ok.Given as goal

abbrev pub invariant-loop-i : goal.invariant-loop-i
invariant-loop-i l = (l.i ≤ 32) × (each_from 32 0 (record_ok (rows_from 1 22) l.index l.bodies) ≡ each_from (32 - l.i) l.i (record_ok (rows_from 1 22) l.index l.bodies))

abbrev pub decreases-loop-i : goal.decreases-loop-i
decreases-loop-i l = 32 - l.i
