use Rattle.std.proofs.Common.{◌≡◌, ◌∷◌, get_or, suc}
use Rattle.pdu_words.proofs.FromWords.{up_to}
use Rattle.pdu_words_rule.proofs.limits.is_within.Given as goal

abbrev pub invariant-loop-i : goal.invariant-loop-i
invariant-loop-i l = l.ok ≡ up_to l.w (get_or l.w 0 0 ∷ l.most) (suc l.i)
