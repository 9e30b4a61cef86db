-- The number, and where that is 0 the bodies.
use Rattle.print.proofs.Laid.{then}
use Rattle.print.specs.Templates.{ascii, ascii_from}
use Rattle.lines.specs.Records.{contents_text}
use Rattle.field_text.proofs.Choices.{ends, goes_on}
use Rattle.lines.proofs.records.contents.Goals as goal

pub returns-then-number-ne0 : goal.returns-then-number-ne0
unfolding contents_text ascii ascii_from
returns-then-number-ne0 c = ends c.args.number _ c.if-number-ne0.true c.field-n.ensures

pub returns : goal.returns
unfolding contents_text ascii ascii_from
returns c = goes_on c.args.number _ c.if-number-ne0.false c.field-n.ensures (then c.numbers-n.ensures c.bodies.ensures)
