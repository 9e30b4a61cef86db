-- The count, the table of contents and the bodies are written one behind the other: together they are the record.
use Rattle.record.proofs.Writing.{too_small, all_written}
use Rattle.record.proofs.write.Goals as goal

pub returns-then-out-head : goal.returns-then-out-head
returns-then-out-head c =
    let all = too_small _ _ _ c.requires _ c.if-out-head.true in
    record { value = all.0; out_after = all.1 }

pub returns : goal.returns
returns c =
    let all = all_written _ _ _ c.requires _ _ _ _ c.if-out-head.false c.write_u16.ensures c.write_table.ensures
    c.copy_part.ensures in
    record { value = all.0; out_after = all.1 }
