-- A report takes 8 bytes, a single call those of its kind.
use Rattle.run.proofs.Calls.{length_update, length_single}
use Rattle.run.proofs.block_length.Goals as goal

pub returns-then-kind-eq-UPDATE : goal.returns-then-kind-eq-UPDATE
returns-then-kind-eq-UPDATE c = length_update _ c.if-kind-eq-UPDATE.true

pub returns : goal.returns
returns c = length_single _ c.if-kind-eq-UPDATE.false c.single_length.ensures
