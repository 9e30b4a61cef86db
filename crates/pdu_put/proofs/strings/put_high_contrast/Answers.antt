-- The numbers, then the string behind them.
use Rattle.std.proofs.Common.{refl}
use Rattle.wire.specs.Numbers.{bytes_of, put_all}
use Rattle.pdu.specs.Settings.{is_byte, is_area, setting_widths, number_of, data_of, data_nums, data_size, data_spans}
use Rattle.pdu.specs.Records.{kind_of, nums_of, size_of, spans_of}
use Rattle.pdu.specs.Writing.{joined, filled, strings_of, encode}
use Rattle.pdu_put.proofs.Puts.{end, put, puts, after}
use Rattle.pdu_put.proofs.strings.put_high_contrast.Goals as goal

pub returns : goal.returns
unfolding joined put_all bytes_of is_byte is_area setting_widths number_of data_of data_nums data_size data_spans kind_of nums_of size_of spans_of filled strings_of encode
returns c =
    record { bytes = puts (put c.put_head.ensures refl (put c.write_u32.ensures refl (put c.write_u32-2.ensures refl (put c.write_u16.ensures refl (put c.copy_string.ensures (after 18 c.requires.text) end))))) c.requires.room }
