-- The ladder: a number outside its set, too small an output, the further error, else the message is put.
use Rattle.pdu_put.proofs.Ways.{outside, too_small, further, ready, wrote}
use Rattle.pdu_write.proofs.write_message.Goals as goal

pub returns-in_default : goal.returns-in_default
returns-in_default g c = outside _ _ c.args.src.now c.args.out.now c.args.further c.from.ensures c.in_default.ensures

pub returns-then-out-size : goal.returns-then-out-size
returns-then-out-size g c = too_small _ _ c.args.src.now c.args.out.now c.args.further c.in-Some.ensures c.from-then-out-size.ensures c.if-out-size.true

pub returns-in-Some-further : goal.returns-in-Some-further
returns-in-Some-further g c = further _ _ c.args.src.now c.args.out.now c.args.further c.in-Some.ensures c.if-out-size.false c.in-Some-further.is

pub put-requires : goal.put-requires
put-requires g c = ready _ c.args.src.now c.args.out.now c.in-Some.ensures c.if-out-size.false

pub returns : goal.returns
returns g c = wrote _ _ c.args.src.now c.args.out.now c.args.further c.in-Some.ensures c.if-out-size.false c.in_default-further.is c.put.ensures
