-- Three numbers of four bytes each are tested.
use Rattle.places_free.proofs.is_none.Goals as goal

pub returns : goal.returns
returns c = rw (c.read_u32-a.ensures, c.read_u32-b.ensures, c.read_u32-c.ensures)
