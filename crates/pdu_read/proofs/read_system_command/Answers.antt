-- 7 where the length is another, 8 where the rule fails, else the words of the record that the numbers make.
use Rattle.std.proofs.Common.{◌∙◌, refl, sym}
use Rattle.pdu.specs.Records.{record_of, size_of}
use Rattle.pdu.specs.Rules.{allowed}
use Rattle.pdu.specs.Reading.{record_as}
use Rattle.pdu_words.specs.Words.{words_of}
use Rattle.pdu_read.proofs.Ways.{system_command_is, unfilled, outside, fine, told_refused, told_message}
use Rattle.pdu_read.proofs.read_system_command.Goals as goal

pub returns-then-s-ne10 : goal.returns-then-s-ne10
unfolding record_as record_of size_of allowed words_of
returns-then-s-ne10 c = told_refused (unfilled 0x04 refl c.args.s.now (λ q. c.if-s-ne10.true (sym q)))

pub returns-then-not-system_command_allowed : goal.returns-then-not-system_command_allowed
unfolding record_as record_of size_of allowed words_of
returns-then-not-system_command_allowed c =
    told_refused (outside 0x04 refl c.args.s.now _ (system_command_is c.args.s.now c.read_u32.ensures c.read_u16.ensures) (sym c.if-s-ne10.false) (sym c.system_command_allowed.ensures ∙ c.if-not-system_command_allowed.true))

pub returns : goal.returns
unfolding record_as record_of size_of allowed words_of
returns c =
    told_message (fine 0x04 refl c.args.s.now _ (system_command_is c.args.s.now c.read_u32.ensures c.read_u16.ensures) (sym c.if-s-ne10.false) (sym c.system_command_allowed.ensures ∙ c.if-not-system_command_allowed.false)) c.system_command_words.ensures
