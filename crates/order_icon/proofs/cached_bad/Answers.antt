-- The two numbers read are those of the definition.
use Rattle.order.proofs.Pictures.{cached_join}
use Rattle.order_icon.proofs.cached_bad.Goals as goal

pub returns : goal.returns
returns c =
    let a = c.args in cached_join a.s.now a.at {entry = c.read_u16-entry.result} {cache = c.read_u8-cache.result} c.cached_numbers_bad.ensures c.read_u16-entry.ensures c.read_u8-cache.ensures
