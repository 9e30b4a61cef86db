-- The icon ends where the order does, and no number lies outside its set.
use Rattle.order.proofs.Pictures.{icon_whole_lem}
use Rattle.order_icon.proofs.is_whole.Goals as goal

pub returns : goal.returns
returns c = let a = c.args in icon_whole_lem a.s.now a.at c.icon_parts-p.ensures c.icon_bad-bad.ensures
