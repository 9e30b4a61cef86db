-- The two numbers are those of the definition.
use Rattle.present_count.proofs.is_for.Goals as goal

pub returns : goal.returns
returns c = rw (c.read_u32-flags.ensures, c.read_u32-id.ensures)
