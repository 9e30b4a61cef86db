-- The count, and as many bytes as it says and the place has, put over zeros.
use Rattle.std.proofs.Common.{◌≤◌, arith, rules}
use Rattle.view.proofs.ViewsRead.{least_is, text_is}
use Rattle.view.proofs.parts.text.Goals as goal

pub put_bytes-requires : goal.put_bytes-requires
put_bytes-requires c =
    let l = least_is c.read_u16-count.result c.args.most c.least-n.ensures in
    let h : c.least-n.result ≤ 520 = omega (arith, l.right, c.requires.1) in
    search rules

pub returns : goal.returns
returns c =
    text_is c.args.s.now c.args.at c.args.most c.requires.1 c.read_u16-count.ensures c.least-n.ensures c.put_bytes.ensures
