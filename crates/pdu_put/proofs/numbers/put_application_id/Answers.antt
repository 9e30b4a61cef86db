-- The id is laid into zeros, and these into the message.
use Rattle.std.proofs.Common.{◌∙◌, ap}
use Rattle.pdu.specs.Writing.{zeros}
use Rattle.wire.specs.Parts.{splice}
use Rattle.pdu_put.proofs.numbers.put_application_id.Goals as goal

pub returns : goal.returns
unfolding zeros
returns c = c.copy_at.ensures ∙ ap (splice c.args.out.now 8) c.copy_string.ensures
