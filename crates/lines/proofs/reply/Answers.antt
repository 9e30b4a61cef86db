-- The number, and what a granted call has besides.
use Rattle.print.specs.Templates.{ascii, ascii_from}
use Rattle.lines.specs.Lines.{reply_text}
use Rattle.field_text.proofs.Choices.{ends, goes_on}
use Rattle.lines.proofs.reply.Goals as goal

pub returns-then-r-ne0 : goal.returns-then-r-ne0
unfolding reply_text ascii ascii_from
returns-then-r-ne0 c = ends c.args.r.number _ c.if-r-ne0.true c.field-n.ensures

pub returns : goal.returns
unfolding reply_text ascii ascii_from
returns c = goes_on c.args.r.number _ c.if-r-ne0.false c.field-n.ensures c.numbers.ensures
