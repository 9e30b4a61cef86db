-- By the test.
use Rattle.std.proofs.Common.{le-leb}
use borrow.Author.Tests.{lt-leb}
use Rattle.view.proofs.parts.least.Goals as goal

pub returns-then-a-b : goal.returns-then-a-b
returns-then-a-b c = let a = c.args in rw (le-leb a.a a.b c.if-a-b.true)

pub returns : goal.returns
returns c = let a = c.args in rw (lt-leb a.a a.b c.if-a-b.false)
