-- The set of ExecResult is its callee's; the other two tests are the rule's own.
use Rattle.pdu_rule.proofs.execute_result_allowed.Goals as goal

pub returns : goal.returns
returns c = rw c.exec_result_ok.ensures
