-- Each position is written as the last two bytes of its word.
use Rattle.pdu_put.proofs.PositionPuts.{system_menu_put}
use Rattle.pdu_put.proofs.positions.put_system_menu.Goals as goal

pub returns : goal.returns
returns c = system_menu_put c.args.w.now c.args.out.now c.put_two.ensures c.low_half-left.ensures c.low_half-top.ensures
