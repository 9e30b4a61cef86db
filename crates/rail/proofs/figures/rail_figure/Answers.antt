-- The call's outcome on the places lent, its reply packed.
use Rattle.std.proofs.Common.{sym}
use Rattle.rail.proofs.FigureExports.{figure_exported}
use Rattle.rail.proofs.figures.rail_figure.Goals as goal

pub returns : goal.returns
returns c = figure_exported (c.at_mark-r.ensures _ (sym c.places-lent.ensures)) c.packed.ensures
