use Rattle.std.proofs.Common.{◌*◌, ◌+◌, ◌≤◌}
use Rattle.record.proofs.Scanning.{Scanned}
use Rattle.record.proofs.scan.Given as goal

-- the entries passed lie within, and what is left decides the rest
abbrev pub invariant-loop-i : goal.invariant-loop-i
invariant-loop-i l = (l.head ≤ l.end) × (l.end ≤ 524290 + 4294967295 * l.i) × Scanned l.record l.count l.i l.end l.placed
