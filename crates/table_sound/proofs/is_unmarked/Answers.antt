-- Two numbers of four bytes each are tested.
use Rattle.table_sound.proofs.is_unmarked.Goals as goal

pub returns : goal.returns
returns c = rw (c.read_u32-a.ensures, c.read_u32-b.ensures)
