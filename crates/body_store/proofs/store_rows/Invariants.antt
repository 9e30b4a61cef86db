use Rattle.std.proofs.Common.{◌+◌, ◌≡◌, ◌≤◌, length}
use Rattle.body.specs.Stores.{store_of, room_all, EndsWell}
use Rattle.rows.specs.Rows.{rows_from}
use Rattle.body_store.proofs.store_rows.Given as goal

abbrev pub invariant-loop-k : goal.invariant-loop-k
invariant-loop-k l = (1 ≤ l.p) × (l.p ≤ length l.s) × (length l.slot ≡ length l.initial.slot) × (l.off + room_all (rows_from l.k l.high) ≤ length l.slot)
    × EndsWell (rows_from l.k l.high) l.flags l.s l.p × (store_of (rows_from l.low l.high) 2 l.flags l.s l.at l.initial.slot ≡ store_of (rows_from l.k l.high) l.off l.flags l.s l.p l.slot)
