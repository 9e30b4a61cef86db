-- The answer, and what a granted lookup has besides.
use Rattle.lines.specs.Lines.{lists_text}
use Rattle.field_text.proofs.Choices.{ends, goes_on}
use Rattle.lines.proofs.listed.Goals as goal

pub returns-then-r-ne0 : goal.returns-then-r-ne0
unfolding lists_text
returns-then-r-ne0 c = ends c.args.r.number _ c.if-r-ne0.true c.reply-n.ensures

pub returns : goal.returns
unfolding lists_text
returns c = goes_on c.args.r.number _ c.if-r-ne0.false c.reply-n.ensures c.both.ensures
