-- The slot is made ready, then the fields are put into it.
use Rattle.table.proofs.Ways.{slot_stored}
use Rattle.rows.specs.Rows.{rows_from}
use Rattle.table_change.proofs.store_fields.Goals as goal

pub returns : goal.returns
returns c =
    let a = c.args in
    slot_stored (rows_from a.low a.high) a.flags a.s.now a.at a.fresh a.slot.now c.prepare.ensures c.store.ensures
