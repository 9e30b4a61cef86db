-- What was read stands at the start of the head: no byte of it, a part, or all of it.
use Rattle.std.proofs.Common.{◌≡◌, ◌≤◌, arith, rules, length, take, sym}
use Rattle.script.proofs.Unread.{unread_failed, over_of, cut_of, read_of}
use Rattle.script.proofs.head.Goals as goal

pub returns-in_err-ended : goal.returns-in_err-ended
returns-in_err-ended g c = unread_failed _ 1 g.row.N _ _ c.from_residual.result c.in_err-ended.field-0.0 c.from_residual.ensures.0 c.from_residual.ensures.1 record { begun = take c.fill-len.result.0 c.fill-len.new.out; taken = c.fill-len.ensures.bytes }

pub returns-then-len-eq0 : goal.returns-then-len-eq0
returns-then-len-eq0 g c = λ some. over_of c.fill-len.result.1 c.in_ok-ended.field-0 c.fill-len.result.0 _ _ c.fill-len.new.out c.in_ok-ended.was c.if-len-eq0.true c.fill-len.ensures.bytes c.fill-len.ensures.end (search (rules, arith, some, c.fill-len.auto.out))

pub returns-then-len : goal.returns-then-len
returns-then-len g c =
    let len : length c.fill-len.new.out ≡ g.row.N = search (rules, c.fill-len.auto.out) in
    let some : 1 ≤ c.fill-len.result.0 = omega (arith, c.if-len-eq0.false) in
    cut_of c.fill-len.result.1 c.in_ok-ended.field-0 1 g.row.N c.fill-len.result.0 _ _ c.fill-len.new.out c.in_ok-ended.was some c.if-len.true (sym len) c.fill-len.ensures.bytes c.fill-len.ensures.end

pub returns : goal.returns
returns g c =
    let len : length c.fill-len.new.out ≡ g.row.N = search (rules, c.fill-len.auto.out) in
    read_of g.row.N c.fill-len.result.0 _ _ c.fill-len.new.out c.if-len.false c.fill-len.ensures.bound (sym len) c.fill-len.ensures.bytes
