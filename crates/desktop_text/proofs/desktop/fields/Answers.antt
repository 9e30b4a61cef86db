-- The modes as numbers, and the stack.
use Rattle.print.proofs.Laid.{as_text, then}
use Rattle.desktop_text.specs.Desktop.{fields_text}
use Rattle.desktop_text.proofs.Told.{modes_told}
use Rattle.desktop_text.proofs.desktop.fields.Goals as goal

pub returns : goal.returns
unfolding fields_text
returns c =
    then (as_text (modes_told c.args.d c.yes_number-hooked.ensures c.yes_number-syncing.ensures) c.modes-n.ensures) c.stack.ensures
