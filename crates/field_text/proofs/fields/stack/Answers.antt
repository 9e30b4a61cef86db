-- The name, and the ids that there is room for.
use Rattle.std.proofs.Common.{ap}
use Rattle.print.proofs.Laid.{as_text, then}
use Rattle.print.specs.Templates.{ascii, ascii_from}
use Rattle.field_text.specs.Fields.{ids_text, stack_text}
use Rattle.field_text.proofs.fields.stack.Goals as goal

pub returns : goal.returns
unfolding stack_text ascii ascii_from
returns c = then c.text-n.ensures (as_text (ap (ids_text c.args.s.ids) c.least.ensures.0) c.ids.ensures)
