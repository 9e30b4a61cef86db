-- The string of a granted record is in its limits.
use Rattle.pdu_put.proofs.Puts.{id_ready}
use Rattle.pdu_put.proofs.kinds.ApplicationIdResponsePut.put.Goals as goal

pub put_application_id_response-requires : goal.put_application_id_response-requires
put_application_id_response-requires c = id_ready c.requires
