-- One text after the other, of the desktop that the bytes are.
use Rattle.std.proofs.Common.{◌++◌, ap}
use Rattle.print.proofs.Laid.{as_text, then}
use Rattle.view.specs.declared.DesktopRecord.{DesktopRecord}
use Rattle.desktop_text.specs.Desktop.{fields_text, figure_text, desktop_text}
use Rattle.desktop_text.proofs.desktop.line.Goals as goal

pub returns : goal.returns
unfolding desktop_text
returns c =
    as_text (ap (λ (d : DesktopRecord). fields_text d ++ figure_text c.args.bytes.now) c.desktop-d.ensures) (then c.fields-n.ensures c.figure.ensures)
