-- Past the end there is nothing to put; else as many bytes as are there, which is the same part.
use Rattle.std.proofs.Common.{◌-◌, ◌∙◌, ap, arith, length}
use Rattle.wire.specs.Parts.{splice}
use Rattle.view.proofs.ViewsRead.{least_is, slice_least, slice_none}
use Rattle.view.proofs.parts.put_bytes.Goals as goal

pub returns-then-s-at : goal.returns-then-s-at
returns-then-s-at c = let a = c.args in slice_none a.s.now a.at a.n a.out.now c.if-s-at.true

pub copy_part-requires : goal.copy_part-requires
copy_part-requires c =
    let l = least_is c.args.n (length c.args.s.now - c.args.at) c.least-k.ensures in
    (omega (arith, l.left, c.requires), omega (arith, l.right, c.if-s-at.false))

pub returns : goal.returns
returns c =
    let a = c.args in
    c.copy_part.ensures ∙ ap (splice a.out.now 0) (slice_least a.s.now a.at a.n c.least-k.ensures)
