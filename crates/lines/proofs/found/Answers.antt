-- The answer, and what a granted lookup has besides.
use Rattle.lines.specs.Lines.{found_text}
use Rattle.field_text.proofs.Choices.{ends, goes_on}
use Rattle.lines.proofs.found.Goals as goal

pub returns-then-r-ne0 : goal.returns-then-r-ne0
unfolding found_text
returns-then-r-ne0 c = ends c.args.r.number _ c.if-r-ne0.true c.reply-n.ensures

pub returns : goal.returns
unfolding found_text
returns c = goes_on c.args.r.number _ c.if-r-ne0.false c.reply-n.ensures c.handed_out.ensures
