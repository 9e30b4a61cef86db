-- The numbers one after the other, each position as the last two bytes of its word.
use Rattle.std.proofs.Common.{refl}
use Rattle.wire.specs.Numbers.{bytes_of, put_all}
use Rattle.pdu.specs.Writing.{joined}
use Rattle.pdu_put.proofs.Puts.{end, put, puts}
use Rattle.pdu_put.proofs.PositionPuts.{min_max_info_put}
use Rattle.pdu_put.proofs.positions.put_min_max_info.Goals as goal

pub returns : goal.returns
unfolding joined put_all bytes_of
returns c =
    min_max_info_put c.args.w.now c.args.out.now (puts (put c.put_head.ensures refl (put c.put_quad.ensures refl (put c.put_quad-2.ensures refl end))) c.requires.0) c.low_half-x.ensures c.low_half-y.ensures
