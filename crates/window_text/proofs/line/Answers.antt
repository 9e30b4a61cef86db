-- One text after the other, of the window that the bytes are.
use Rattle.std.proofs.Common.{ap}
use Rattle.print.proofs.Laid.{as_text, then}
use Rattle.window_text.specs.Windows.{shown_as, window_text}
use Rattle.window_text.proofs.line.Goals as goal

pub returns : goal.returns
unfolding window_text
returns c =
    as_text (ap (shown_as c.args.id c.args.bytes.now) c.window-w.ensures) (then (then c.fields-n.ensures c.icons-n.ensures) c.pixels.ensures)
