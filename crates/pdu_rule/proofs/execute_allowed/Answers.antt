-- Each test is its callee's; the rule joins them in the same order.
use Rattle.pdu_rule.proofs.execute_allowed.Goals as goal

pub returns : goal.returns
returns c = rw (c.text_ok.ensures, c.text_ok-2.ensures, c.text_ok-3.ensures, c.execute_flags_ok.ensures)
