-- The parts follow one another, so their lengths add up to what lies between the mask and the end.
use Rattle.cache.proofs.Ways.{runs_tabled, runs_plain}
use Rattle.cache.proofs.runs.Goals as goal

pub returns-then-has_table : goal.returns-then-has_table
returns-then-has_table c =
    runs_tabled c.args.cell.now c.requires c.has_table.ensures c.read_u16-a.ensures c.read_u16-b.ensures c.if-has_table.true c.read_u16-c.ensures

pub returns : goal.returns
returns c =
    runs_plain c.args.cell.now c.requires c.has_table.ensures c.read_u16-a.ensures c.read_u16-b.ensures c.if-has_table.false
