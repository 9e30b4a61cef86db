-- Head and numbers, one after the other.
use Rattle.std.proofs.Common.{refl}
use Rattle.wire.specs.Numbers.{bytes_of, put_all}
use Rattle.pdu.specs.Layout.{widths}
use Rattle.pdu.specs.Records.{kind_of, nums_of, size_of, spans_of}
use Rattle.pdu.specs.Writing.{joined, strings_of, encode}
use Rattle.pdu_put.proofs.Puts.{end, put, puts}
use Rattle.pdu_put.proofs.kinds.NotifyEventPut.put.Goals as goal

pub returns : goal.returns
unfolding joined put_all bytes_of widths kind_of nums_of size_of spans_of strings_of encode
returns c =
    record { bytes = puts (put c.put_head.ensures refl (put c.write_u32.ensures refl (put c.write_u32-2.ensures refl end))) c.requires.room }
