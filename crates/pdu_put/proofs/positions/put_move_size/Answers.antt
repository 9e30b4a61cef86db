-- Start is 0 or 1, each position is written as the last two bytes of its word.
use Rattle.std.proofs.Common.{Bool, true, false, ◌≡◌, ◌∙◌, refl}
use mir.Val.{bool_byte}
use Rattle.pdu.specs.Records.{yes_number}
use Rattle.pdu_put.proofs.PositionPuts.{move_size_put}
use Rattle.pdu_put.proofs.positions.put_move_size.Goals as goal

yes_byte : (b : Bool) → bool_byte b ≡ yes_number b
yes_byte true = refl
yes_byte false = refl

pub returns : goal.returns
returns c =
    move_size_put c.args.w.now c.args.out.now c.put_four.ensures (c.from-start.ensures ∙ yes_byte _) refl c.low_half-x.ensures c.low_half-y.ensures
