-- Head and window id, then the id with zeros behind it.
use Rattle.std.proofs.Common.{refl}
use Rattle.pdu_put.proofs.Puts.{end, put, puts, after_id}
use Rattle.wire.specs.Numbers.{bytes_of, put_all}
use Rattle.pdu.specs.Layout.{widths}
use Rattle.pdu.specs.Records.{kind_of, nums_of, size_of, spans_of}
use Rattle.pdu.specs.Writing.{joined, filled, strings_of, encode}
use Rattle.pdu_put.proofs.strings.put_application_id_response.Goals as goal

pub returns : goal.returns
unfolding joined put_all bytes_of widths kind_of nums_of size_of spans_of filled strings_of encode
returns c =
    record { bytes = puts (put c.put_head.ensures refl (put c.put_application_id.ensures (after_id c.requires.text) end)) c.requires.room }
