-- Each turn writes the entry of one order; those before it stand.
use Rattle.record.proofs.Writing.{table_start, table_next, table_end}
use Rattle.record.proofs.write_table.Goals as goal

pub loop-i-init : goal.loop-i-init
loop-i-init c = table_start _ _ _ c.requires.2

pub loop-i-preserved : goal.loop-i-preserved
loop-i-preserved c =
    table_next _ _ _ c.requires.1 c.requires.3 _ _ _ c.loop-i.i c.loop-i-test.true c.loop-i.invariant _ _ _
    c.read_u16-size.ensures c.write_u32.ensures c.write_u32-in-loop-i.ensures

pub returns : goal.returns
returns c = table_end _ _ _ _ _ _ c.loop-i.i c.loop-i-test.false c.loop-i.invariant
