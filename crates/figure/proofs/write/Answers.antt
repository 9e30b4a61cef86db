-- `write`: three numbers of 4 bytes, one after the other, are the figure's 12 bytes. Assumes nothing.
use Rattle.figure.proofs.FigureBytes.{figure_put}
use Rattle.figure.proofs.write.Goals as goal

pub returns : goal.returns
returns c =
    figure_put c.args.out.now c.args.at c.args.f c.requires c.write_u32.ensures c.write_u32-2.ensures c.write_u32-3.ensures
