-- The number, and where the memory is fit the rest.
use Rattle.std.proofs.Common.{eq-eqb, ne_eqb}
use lib.Dec.{eqb}
use Rattle.print.proofs.Laid.{then}
use Rattle.print.specs.Templates.{ascii, ascii_from}
use Rattle.lines.specs.Lines.{update_text}
use Rattle.field_text.proofs.Choices.{second, stays}
use Rattle.lines.proofs.updated.Goals as goal

pub returns-then-r-eq1 : goal.returns-then-r-eq1
unfolding update_text ascii ascii_from
returns-then-r-eq1 c = stays (eqb c.args.r.number 1) _ (eq-eqb c.args.r.number 1 c.if-r-eq1.true) c.field-n.ensures

pub returns : goal.returns
unfolding update_text ascii ascii_from
returns c =
    then c.field-n.ensures (second (eqb c.args.r.number 1) _ _ (ne_eqb c.args.r.number 1 c.if-r-eq1.false) c.numbers.ensures)
