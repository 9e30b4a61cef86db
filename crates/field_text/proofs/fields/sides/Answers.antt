-- The part that is lent has as many of the numbers as there are.
use Rattle.std.proofs.Common.{ap}
use Rattle.print.proofs.Laid.{as_text}
use Rattle.field_text.specs.Fields.{sides_text}
use Rattle.field_text.proofs.Parts.{the_first}
use Rattle.field_text.proofs.fields.sides.Goals as goal

pub returns : goal.returns
unfolding sides_text
returns c = as_text (ap sides_text (the_first c.args.k _ c.args.ns.now c.least-end.ensures.0)) c.rectangles.ensures
