-- Each test is a line of the definition, in its order.
use Rattle.std.proofs.Common.{ap, not}
use Rattle.order_icon.proofs.numbers_bad.Goals as goal

pub returns-then-not-cache-entry : goal.returns-then-not-cache-entry
returns-then-not-cache-entry c = rw (ap not c.if-not-cache-entry.true)

pub returns-then-not-cache : goal.returns-then-not-cache
returns-then-not-cache c = rw ((ap not c.if-not-cache-entry.false), (ap not c.if-not-cache.true))

pub returns-then-not-bits : goal.returns-then-not-bits
returns-then-not-bits c = rw ((ap not c.if-not-cache-entry.false), (ap not c.if-not-cache.false), (ap not c.if-not-bits.true))

pub returns-then-not-width : goal.returns-then-not-width
returns-then-not-width c =
    rw ((ap not c.if-not-cache-entry.false), (ap not c.if-not-cache.false), (ap not c.if-not-bits.false), (ap not c.if-not-width.true))

pub returns-then-not-height : goal.returns-then-not-height
returns-then-not-height c =
    rw ((ap not c.if-not-cache-entry.false), (ap not c.if-not-cache.false), (ap not c.if-not-bits.false), (ap not c.if-not-width.false), (ap not c.if-not-height.true))
