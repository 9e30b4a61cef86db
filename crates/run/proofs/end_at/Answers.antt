-- The tests are endsWith's, on what is left of the script; the item is read at its index.
use Rattle.run.proofs.Ends.{ends_0, ends_2, ends_3, ends_4, ends_14, goes_on}
use Rattle.run.proofs.end_at.Goals as goal

pub returns-then-left-eq0 : goal.returns-then-left-eq0
returns-then-left-eq0 c = ends_0 c.args.script.now c.args.at c.args.room c.if-left-eq0.true

pub returns-then-left-lt3 : goal.returns-then-left-lt3
returns-then-left-lt3 c = ends_2 c.args.script.now c.args.at c.args.room c.if-left-eq0.false c.if-left-lt3.true

pub returns-then-left-size : goal.returns-then-left-size
returns-then-left-size c =
    ends_3 c.args.script.now c.args.at c.args.room c.if-left-eq0.false c.if-left-lt3.false c.read_u8-kind.ensures c.read_u16-size.ensures
    c.if-left-size.true

pub returns-then-kind-gt-LAST : goal.returns-then-kind-gt-LAST
returns-then-kind-gt-LAST c =
    ends_4 c.args.script.now c.args.at c.args.room c.if-left-eq0.false c.if-left-lt3.false c.read_u8-kind.ensures c.read_u16-size.ensures
    c.if-left-size.false c.if-kind-gt-LAST.true

pub returns-then-room-block_length : goal.returns-then-room-block_length
returns-then-room-block_length c =
    ends_14 c.args.script.now c.args.at c.args.room c.if-left-eq0.false c.if-left-lt3.false c.read_u8-kind.ensures c.read_u16-size.ensures
    c.if-left-size.false c.if-kind-gt-LAST.false c.block_length.ensures c.if-room-block_length.true

pub returns : goal.returns
returns c =
    goes_on c.args.script.now c.args.at c.args.room c.if-left-eq0.false c.if-left-lt3.false c.read_u8-kind.ensures c.read_u16-size.ensures
    c.if-left-size.false c.if-kind-gt-LAST.false c.block_length.ensures c.if-room-block_length.false
