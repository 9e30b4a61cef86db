-- Row K of the table is a field.
use Rattle.std.proofs.Common.{arith}
use Rattle.rows.proofs.Table.{row_told}
use Rattle.body_store.proofs.put.Goals as goal

pub put_field-requires : goal.put_field-requires
put_field-requires g c =
    let b = c.requires.k_bound in
    record { k_bound = (b.0, b.1, b.2, b.3, row_told g.row.K (omega (arith, b.0))); ends_well = c.requires.ends_well }
