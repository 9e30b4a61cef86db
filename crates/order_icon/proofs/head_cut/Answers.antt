-- Under 2 bytes the entry is cut, under 4 a byte, else a number of 2.
use Rattle.order.proofs.Pictures.{head_entry, head_byte, head_word}
use Rattle.order_icon.proofs.head_cut.Goals as goal

pub returns-then-a-lt2 : goal.returns-then-a-lt2
returns-then-a-lt2 c = head_entry _ c.if-a-lt2.true

pub returns-then-a-lt4 : goal.returns-then-a-lt4
returns-then-a-lt4 c = head_byte _ c.if-a-lt2.false c.if-a-lt4.true

pub returns : goal.returns
returns c = head_word _ c.if-a-lt4.false
