-- The answer, and what a granted write has besides.
use Rattle.print.proofs.Laid.{as_text}
use Rattle.print.specs.Templates.{ascii, ascii_from}
use Rattle.lines.specs.Records.{written_text}
use Rattle.field_text.proofs.Choices.{ends, goes_on}
use Rattle.field_text.proofs.Parts.{whole_hex}
use Rattle.lines.proofs.records.written.Goals as goal

pub returns-then-r-ne0 : goal.returns-then-r-ne0
unfolding written_text ascii ascii_from
returns-then-r-ne0 c = ends c.args.r.number _ c.if-r-ne0.true c.reply-n.ensures

pub returns : goal.returns
unfolding written_text ascii ascii_from
returns c =
    goes_on c.args.r.number _ c.if-r-ne0.false c.reply-n.ensures (as_text (whole_hex c.args.s.now) c.string.ensures)
