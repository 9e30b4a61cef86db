-- What cannot be replayed does not meet the rule; else the replay from the mark ends at 0 just where it is not met.
use Rattle.std.proofs.Common.{◌∙◌, ◌≡◌, arith, sym, true}
use Rattle.wire.proofs.Numbers.{Bytes}
use Rattle.table.proofs.Rule.{table_has}
use Rattle.journal.specs.Replay.{replayable}
use Rattle.journal.proofs.Validations.{Replayable, replayable_has, not_validated, validated_none, validated_some}
use Rattle.journal_replay.proofs.validate.Goals as goal

pub returns-then-not-can_replay : goal.returns-then-not-can_replay
returns-then-not-can_replay c =
    not_validated c.args.want c.args.index.now c.args.bodies.now c.args.lent c.args.journal.now c.args.d.now c.args.m.now
    (sym c.can_replay.ensures ∙ c.if-not-can_replay.true)

pub from_mark-end-requires : goal.from_mark-end-requires
from_mark-end-requires c =
    let ready : replayable c.args.index.now c.args.bodies.now c.args.lent c.args.journal.now ≡ true = sym c.can_replay.ensures ∙ c.if-not-can_replay.false in
    let has : Replayable c.args.index.now c.args.bodies.now c.args.lent c.args.journal.now = replayable_has c.args.index.now c.args.bodies.now c.args.lent c.args.journal.now (ready) in
    record {
      index_value = ((table_has c.args.index.now c.args.bodies.now c.args.lent (has).sound).index, (has).long.bodies, (has).long.journal);
      d_len = c.requires;
    }

pub returns-then-end-eq0 : goal.returns-then-end-eq0
returns-then-end-eq0 c =
    let bytes : Bytes c.args.journal.now = record { small = λ i. omega (arith, c.shared_slice_known-3-1.given i) } in
    let ready : replayable c.args.index.now c.args.bodies.now c.args.lent c.args.journal.now ≡ true = sym c.can_replay.ensures ∙ c.if-not-can_replay.false in
    validated_none c.args.want c.args.index.now c.args.bodies.now c.args.lent c.args.journal.now (bytes) c.args.d.now
    c.args.m.now c.requires.0 c.requires.1 (ready) c.read_u16-count.ensures c.from_mark-end.ensures c.if-end-eq0.true

pub returns : goal.returns
returns c =
    let bytes : Bytes c.args.journal.now = record { small = λ i. omega (arith, c.shared_slice_known-3-1.given i) } in
    let ready : replayable c.args.index.now c.args.bodies.now c.args.lent c.args.journal.now ≡ true = sym c.can_replay.ensures ∙ c.if-not-can_replay.false in
    validated_some c.args.want c.args.index.now c.args.bodies.now c.args.lent c.args.journal.now (bytes) c.args.d.now
    c.args.m.now c.requires.0 c.requires.1 (ready) c.read_u16-count.ensures c.from_mark-end.ensures c.if-end-eq0.false
