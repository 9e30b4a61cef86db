-- The lines of the rule are tested in their order; the largest pointer stands for all.
use Rattle.places.proofs.Rule.{short, too_few_lem, too_many, too_high, all_small, so_valid}
use Rattle.places_valid.proofs.is_valid.Goals as goal

pub returns-then-bytes-lt-LENGTH : goal.returns-then-bytes-lt-LENGTH
returns-then-bytes-lt-LENGTH c = short c.args.bytes.now c.if-bytes-lt-LENGTH.true

pub returns-then-n-lt-FEWEST : goal.returns-then-n-lt-FEWEST
returns-then-n-lt-FEWEST c = too_few_lem c.args.bytes.now c.if-bytes-lt-LENGTH.false c.if-n-lt-FEWEST.true

pub returns-then-n-gt-MOST : goal.returns-then-n-gt-MOST
returns-then-n-gt-MOST c = too_many c.args.bytes.now c.if-bytes-lt-LENGTH.false c.if-n-lt-FEWEST.false c.if-n-gt-MOST.true

pub returns-then-n-most : goal.returns-then-n-most
returns-then-n-most c =
    too_high c.args.bytes.now c.if-bytes-lt-LENGTH.false c.if-n-lt-FEWEST.false c.if-n-gt-MOST.false c.most.ensures c.if-n-most.true

pub cells_apart-requires : goal.cells_apart-requires
cells_apart-requires c =
    (c.if-bytes-lt-LENGTH.false, all_small c.args.bytes.now c.if-bytes-lt-LENGTH.false c.if-n-lt-FEWEST.false c.if-n-gt-MOST.false c.most.ensures c.if-n-most.false)

pub returns : goal.returns
returns c =
    so_valid c.args.bytes.now c.if-bytes-lt-LENGTH.false c.if-n-lt-FEWEST.false c.if-n-gt-MOST.false c.most.ensures c.if-n-most.false c.cells_apart.ensures
