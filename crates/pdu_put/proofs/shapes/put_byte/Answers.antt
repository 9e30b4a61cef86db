-- Head and byte, one after the other.
use Rattle.std.proofs.Common.{refl}
use Rattle.pdu_put.proofs.Puts.{end, put, puts}
use Rattle.wire.specs.Numbers.{bytes_of, put_all}
use Rattle.pdu.specs.Writing.{joined}
use Rattle.pdu_put.proofs.shapes.put_byte.Goals as goal

pub returns : goal.returns
unfolding joined put_all bytes_of
returns c = puts (put c.put_head.ensures refl (put c.write_u8.ensures refl end)) c.requires
