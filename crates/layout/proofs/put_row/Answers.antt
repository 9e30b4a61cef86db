-- What the table tells is the row.
use Rattle.rows.proofs.Table.{row_told}
use Rattle.layout.proofs.put_row.Goals as goal

pub put_field-requires : goal.put_field-requires
put_field-requires c =
    record {
      k_bound = (c.requires.k_bound.0, c.requires.k_bound.1, c.requires.k_bound.2, row_told c.args.k c.requires.k_bound.0);
      off_value = c.requires.off_value;
    }

pub returns : goal.returns
returns c = c.put_field.ensures
