-- Each position is written as the last two bytes of its word.
use Rattle.pdu_put.proofs.PositionPuts.{window_move_put}
use Rattle.pdu_put.proofs.positions.put_window_move.Goals as goal

pub returns : goal.returns
returns c =
    window_move_put c.args.w.now c.args.out.now c.put_four.ensures c.low_half-left.ensures c.low_half-top.ensures c.low_half-right.ensures c.low_half-bottom.ensures
