-- The two tests.
use Rattle.std.proofs.Common.{Bool, ◌∙◌, ap, length, sym}
use lib.Dec.{ltb}
use Rattle.wire.specs.Tests.{both}
use Rattle.profile.specs.Programs.{prefix}
use Rattle.profile.proofs.Programs.{begins_is}
use Rattle.profile_pdu.proofs.is_published.Goals as goal

pub returns : goal.returns
returns c = ap (λ (t : Bool). both (ltb (length prefix) (length c.args.name.now)) t) (c.starts_with.ensures.value ∙ sym (begins_is c.args.name.now prefix))
