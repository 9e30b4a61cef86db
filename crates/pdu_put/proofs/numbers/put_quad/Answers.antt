-- Its numbers are written one after the other.
use Rattle.std.proofs.Common.{arith, refl}
use Rattle.pdu_put.proofs.Puts.{end, put, puts}
use Rattle.wire.specs.Numbers.{bytes_of, put_all}
use Rattle.pdu.specs.Writing.{joined}
use Rattle.pdu_put.proofs.numbers.put_quad.Goals as goal

pub returns : goal.returns
unfolding joined put_all bytes_of
returns c = puts (put c.put_pair.ensures refl (put c.put_pair-2.ensures refl end)) (omega (arith, c.requires))
