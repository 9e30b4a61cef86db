-- A plain refusal stays; what was read is handed out where a server sends it.
use Rattle.std.proofs.Common.{◌≡◌, ◌∙◌, sym, Err, rules}
use Rattle.profile.proofs.Counter.{plain_refusal, wrong_end_lem, read_through}
use Rattle.profile_pdu.proofs.read.Goals as goal

pub returns-in_err-read : goal.returns-in_err-read
returns-in_err-read c =
    let e : c.from_residual.result ≡ Err c.in_err-read.field-0.0 = search rules in
    rw e (plain_refusal c.args.message.now c.read.ensures c.args.words.now c.in_err-read.was)

pub returns-then-not-is_read : goal.returns-then-not-is_read
returns-then-not-is_read c =
    wrong_end_lem c.args.message.now c.read.ensures c.args.words.now c.in_ok-read.was (sym c.is_read.ensures ∙ c.if-not-is_read.true)

pub returns : goal.returns
returns c =
    read_through c.args.message.now c.read.ensures c.args.words.now c.in_ok-read.was (sym c.is_read.ensures ∙ c.if-not-is_read.false)
