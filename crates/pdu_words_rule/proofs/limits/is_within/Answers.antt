-- After i turns ok tells of the type and of i words.
use Rattle.std.proofs.Common.{◌∙◌, ◌≡◌, ◌∷◌, Bool, add-one, ap, arith, get_or, suc}
use lib.Dec.{leb}
use Rattle.wire.specs.Tests.{both}
use Rattle.pdu_words.proofs.FromWords.{up_to}
use Rattle.pdu_words_rule.proofs.limits.is_within.Goals as goal

pub loop-i-preserved : goal.loop-i-preserved
loop-i-preserved c =
    let l = c.loop-i in
    let a = c.args in
    rw (add-one l.i) (ap (λ (b : Bool). both b (leb (get_or a.w.now (suc l.i) 0) (get_or a.most l.i 0))) l.invariant)

pub returns : goal.returns
returns c =
    let l = c.loop-i in
    let e : suc l.i ≡ 12 = omega (arith, l.auto.i-end, c.loop-i-test.false) in
    l.invariant ∙ ap (up_to c.args.w.now (get_or c.args.w.now 0 0 ∷ c.args.most)) e
