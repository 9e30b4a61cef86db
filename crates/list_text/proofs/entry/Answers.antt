-- Both ids of a notification icon, or that of a window, as the bytes have them.
use Rattle.std.proofs.Common.{ap}
use Rattle.print.proofs.Laid.{as_text}
use Rattle.print.specs.Templates.{ascii, ascii_from}
use Rattle.print.specs.Texts.{decimal_text}
use Rattle.protocol.specs.declared.WindowId.{WindowId}
use Rattle.list_text.specs.Lists.{pair_text, entry_text}
use Rattle.field_text.proofs.Choices.{first, second}
use Rattle.list_text.proofs.entry.Goals as goal

pub returns-then-icons : goal.returns-then-icons
unfolding entry_text ascii ascii_from
returns-then-icons c = first c.args.icons _ _ c.if-icons.true (as_text (ap pair_text c.notification-p.ensures) c.pair.ensures)

pub returns : goal.returns
unfolding entry_text ascii ascii_from
returns c =
    second c.args.icons _ _ c.if-icons.false (as_text (ap (λ (w : WindowId). decimal_text w.id) c.window-w.ensures) c.decimal.ensures)
