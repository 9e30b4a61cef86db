-- `shows`: the byte is the show state. Assumes nothing.
use Rattle.figure.proofs.FigureFields.{shown_by}
use Rattle.figure.proofs.shows.Goals as goal

pub returns : goal.returns
returns c = shown_by c.args.slot.now
