-- Words that stand for a record of this type are written as the message that they make.
use Rattle.std.proofs.Common.{◌∙◌, sym}
use Rattle.pdu_put.proofs.Ways.{no_record, standing}
use Rattle.pdu_write.proofs.write.Goals as goal

pub returns-then-not-stand : goal.returns-then-not-stand
returns-then-not-stand g c = no_record _ c.args.further c.from.ensures (sym c.stand.ensures ∙ c.if-not-stand.true)

pub message_from-message-requires : goal.message_from-message-requires
message_from-message-requires g c = record { stands = record { holds = sym c.stand.ensures ∙ c.if-not-stand.false }; of_the_type = c.requires }

pub returns : goal.returns
returns g c = standing _ (sym c.stand.ensures ∙ c.if-not-stand.false) c.message_from-message.ensures c.write_message.ensures
