-- The sum is packed_of by its definition; each part stays within 32 bits.
use Rattle.std.proofs.Common.{refl}
use Rattle.session.specs.Packed.{packed_of}
use Rattle.replies.proofs.packed.Goals as goal

pub returns : goal.returns
returns c = unfold packed_of in refl
