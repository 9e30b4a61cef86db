-- The strings of a granted record are in their limits.
use Rattle.pdu_put.proofs.Puts.{execute_ready}
use Rattle.pdu_put.proofs.kinds.ExecutePut.put.Goals as goal

pub put_execute-requires : goal.put_execute-requires
put_execute-requires c = execute_ready c.requires
