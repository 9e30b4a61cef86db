-- Each test of the definition in its turn.
use Rattle.journal.proofs.Validations.{replayable_short, replayable_unsound, kept_asks, replayable_counted}
use Rattle.journal_replay.proofs.can_replay.Goals as goal

pub returns-then-too_short : goal.returns-then-too_short
returns-then-too_short c =
    replayable_short c.args.index.now c.args.bodies.now c.args.lent c.args.journal.now c.too_short.ensures c.if-too_short.true

pub returns-then-not-is_sound : goal.returns-then-not-is_sound
returns-then-not-is_sound c =
    replayable_unsound c.args.index.now c.args.bodies.now c.args.lent c.args.journal.now c.too_short.ensures c.if-too_short.false c.is_sound.ensures
    (c.if-not-is_sound.true)

pub is_kept-requires : goal.is_kept-requires
is_kept-requires c =
    kept_asks c.args.index.now c.args.bodies.now c.args.lent c.args.journal.now c.too_short.ensures c.if-too_short.false c.is_sound.ensures

pub returns : goal.returns
returns c =
    replayable_counted c.args.index.now c.args.bodies.now c.args.lent c.args.journal.now c.too_short.ensures c.if-too_short.false c.is_sound.ensures (c.if-not-is_sound.false)
    c.read_u16-count.ensures c.is_kept.ensures
