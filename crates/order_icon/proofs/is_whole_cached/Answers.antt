-- The cached icon ends elsewhere than the order, or its numbers tell.
use Rattle.order.proofs.Pictures.{cached_over, cached_whole_lem}
use Rattle.order_icon.proofs.is_whole_cached.Goals as goal

pub returns-then-at-s : goal.returns-then-at-s
returns-then-at-s c = let a = c.args in cached_over a.s.now a.at c.requires c.if-at-s.true

pub returns : goal.returns
returns c = let a = c.args in cached_whole_lem a.s.now a.at c.requires c.if-at-s.false c.cached_bad.ensures
