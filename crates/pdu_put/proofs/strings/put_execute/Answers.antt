-- Head and lengths, then the three strings, each behind the one before.
use Rattle.std.proofs.Common.{refl}
use Rattle.pdu_put.proofs.Puts.{end, put, puts, after}
use Rattle.wire.specs.Numbers.{bytes_of, put_all}
use Rattle.pdu.specs.Layout.{widths}
use Rattle.pdu.specs.Records.{kind_of, nums_of, size_of, spans_of}
use Rattle.pdu.specs.Writing.{joined, filled, strings_of, encode}
use Rattle.pdu_put.proofs.strings.put_execute.Goals as goal

pub returns : goal.returns
unfolding joined put_all bytes_of widths kind_of nums_of size_of spans_of filled strings_of encode
returns c =
    record { bytes = puts (put c.put_pair.ensures refl (put c.put_quad.ensures refl (put c.copy_string.ensures (after 12 c.requires.file) (put c.copy_string-2.ensures (after _ c.requires.directory) (put c.copy_string-3.ensures (after _ c.requires.argument) end))))) c.requires.room }
