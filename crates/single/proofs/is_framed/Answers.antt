-- Type byte, size and end are tested as the rule has them; a size of two bytes bounds the order.
use Rattle.std.proofs.Common.{rules}
use Rattle.single.proofs.SingleTests.{frame_seen}
use Rattle.single.proofs.is_framed.Goals as goal

pub returns : goal.returns
returns c = let a = c.args in frame_seen a.s.now a.end c.read_u8.ensures c.read_u16.ensures (search rules)
