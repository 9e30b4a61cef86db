use Rattle.std.proofs.Common.{◌*◌, ◌+◌, ◌≡◌, ◌≤◌}
use Rattle.body.specs.Bodies.{fields_ok}
use Rattle.rows.specs.Rows.{rows_from}
use Rattle.body_rule.proofs.rows_ok.Given as goal

abbrev pub invariant-loop-k : goal.invariant-loop-k
invariant-loop-k l = (l.off ≤ 2 + 522 * l.k) × (fields_ok (rows_from l.low l.high) 2 l.slot ≡ fields_ok (rows_from l.k l.high) l.off l.slot)
