-- 7 where the length is another, else the words of the setting with its byte.
use Rattle.std.proofs.Common.{refl, sym}
use Rattle.wire.specs.Numbers.{num_at}
use Rattle.pdu.specs.Settings.{byte, data_size, data_allowed}
use Rattle.pdu.proofs.Settings.{byte_is}
use Rattle.pdu_read.proofs.Ways.{byte_agrees, data_unfilled, data_fine, told_refused}
use Rattle.pdu_read.proofs.read_byte_setting.Goals as goal

pub returns-then-s-ne9 : goal.returns-then-s-ne9
unfolding data_size data_allowed
returns-then-s-ne9 c =
    let s = c.args.s.now in
    told_refused (data_unfilled s c.args.number (byte (num_at 1 s 8)) c.requires.1 c.requires.0 (byte_is s c.requires.1 c.requires.0 refl) (λ q. c.if-s-ne9.true (sym q)))

pub returns : goal.returns
unfolding data_size data_allowed
returns c =
    let s = c.args.s.now in
    data_fine s c.args.number (byte c.read_u8-value.result) c.requires.1 c.requires.0 (byte_is s c.requires.1 c.requires.0 c.read_u8-value.ensures) (sym c.if-s-ne9.false) (byte_agrees s c.requires.0 c.requires.1) refl c.byte_setting_words.ensures
