-- What was read stands at the start of the payload: a part, or all of it.
use Rattle.std.proofs.Common.{◌≡◌, ◌≤◌, ◌<◌, arith, rules, length, take}
use Rattle.script.proofs.Unread.{unread_failed, cut_of, read_of}
use Rattle.script.proofs.payload.Goals as goal

pub returns-in_err-ended : goal.returns-in_err-ended
returns-in_err-ended g c = unread_failed _ 0 c.args.len _ _ c.from_residual.result c.in_err-ended.field-0.0 c.from_residual.ensures.0 c.from_residual.ensures.1 record { begun = take c.fill-got.result.0 c.fill-got.new.out; taken = c.fill-got.ensures.bytes }

pub returns-then-got-payload : goal.returns-then-got-payload
returns-then-got-payload g c =
    let len : c.args.len ≡ length c.fill-got.new.out = search (rules, arith) in
    let fewer : c.fill-got.result.0 < c.args.len = search (rules, arith) in
    cut_of c.fill-got.result.1 c.in_ok-ended.field-0 0 c.args.len c.fill-got.result.0 _ _ c.fill-got.new.out c.in_ok-ended.was (omega arith) fewer len c.fill-got.ensures.bytes c.fill-got.ensures.end

pub returns : goal.returns
returns g c =
    let len : c.args.len ≡ length c.fill-got.new.out = search (rules, arith) in
    let enough : c.args.len ≤ c.fill-got.result.0 = search (rules, arith) in
    read_of c.args.len c.fill-got.result.0 _ _ c.fill-got.new.out enough c.fill-got.ensures.bound len c.fill-got.ensures.bytes
