-- The name, and what there is of the part.
use Rattle.print.proofs.Laid.{as_text, then}
use Rattle.print.proofs.Texts.{no_part, part_there}
use Rattle.print.proofs.string.Goals as goal

pub returns-then-s-from : goal.returns-then-s-from
returns-then-s-from c = let a = c.args in as_text (no_part a.name.now a.s.now a.from a.len c.if-s-from.true) c.text-n.ensures

pub returns : goal.returns
returns c =
    let a = c.args in then c.text-n.ensures (as_text (part_there a.s.now a.from a.len _ c.least.ensures.0) c.hex.ensures)
