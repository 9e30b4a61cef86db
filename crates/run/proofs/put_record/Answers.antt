-- As a lookup: the output is cleared, the record is written behind the first four bytes, and its reply is put there.
use Rattle.session.specs.Calls.{write_record}
use Rattle.run.proofs.Calls.{handed_block}
use Rattle.run.proofs.put_record.Goals as goal

pub returns : goal.returns
returns c p is =
    handed_block write_record c.args.out.now _ _ c.requires c.clear.ensures (c.write-r.ensures p is) c.put_reply.ensures
