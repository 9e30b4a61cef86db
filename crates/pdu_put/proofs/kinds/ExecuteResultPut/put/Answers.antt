-- The string of a granted record is in its limits.
use Rattle.pdu_put.proofs.Puts.{result_ready}
use Rattle.pdu_put.proofs.kinds.ExecuteResultPut.put.Goals as goal

pub put_execute_result-requires : goal.put_execute_result-requires
put_execute_result-requires c = result_ready c.requires
