-- The kind and the two numbers are read where holder_at reads them.
use Rattle.run.proofs.Calls.{is_holder}
use Rattle.run.proofs.holder_at.Goals as goal

pub returns : goal.returns
returns c = is_holder _ _ c.read_u8-kind.ensures c.read_u32-first.ensures c.read_u32-second.ensures c.holder_of.ensures
