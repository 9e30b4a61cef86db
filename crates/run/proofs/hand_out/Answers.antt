-- By the kind: the record, or a lookup of what the item names.
use Rattle.std.proofs.Common.{◌∙◌, ap, sym}
use Rattle.store.specs.Store.{five}
use Rattle.run.specs.Script.{block_length}
use Rattle.run.proofs.Calls.{done_as, steps_record, steps_look}
use Rattle.run.proofs.hand_out.Goals as goal

pub put_record-requires : goal.put_record-requires
put_record-requires c =
    c.requires.2 ∙ ap block_length (steps_record c.args.lent c.args.kind c.args.arg.now c.requires.0 c.if-kind-eq-RECORD.true)

pub returns-then-kind-eq-RECORD : goal.returns-then-kind-eq-RECORD
returns-then-kind-eq-RECORD c =
    done_as (steps_record c.args.lent c.args.kind c.args.arg.now c.requires.0 c.if-kind-eq-RECORD.true) (c.put_record.ensures (five c.args.a.now c.args.b.now c.args.c.now c.args.d.now c.args.e.now) (sym c.requires.1))

pub look_up-requires : goal.look_up-requires
look_up-requires c =
    c.requires.2 ∙ ap block_length (steps_look c.args.lent c.args.kind c.args.arg.now c.requires.0 c.if-kind-eq-RECORD.false c.target_of-target.ensures)

pub returns : goal.returns
returns c =
    done_as (steps_look c.args.lent c.args.kind c.args.arg.now c.requires.0 c.if-kind-eq-RECORD.false c.target_of-target.ensures) c.look_up.ensures
