-- The lines of the rule are tested in their order.
use Rattle.slots.proofs.Ways.{sound_short, sound_invalid, sound_windows, sound_rest}
use Rattle.slots.proofs.sound.is_sound.Goals as goal

pub returns-then-index-lt-LENGTH : goal.returns-then-index-lt-LENGTH
returns-then-index-lt-LENGTH c = sound_short c.args.index.now c.if-index-lt-LENGTH.true

pub returns-then-not-is_valid : goal.returns-then-not-is_valid
returns-then-not-is_valid c = sound_invalid c.args.index.now c.if-index-lt-LENGTH.false c.is_valid.ensures (c.if-not-is_valid.true)

pub returns-then-not-slots_ok : goal.returns-then-not-slots_ok
returns-then-not-slots_ok c =
    sound_windows c.args.index.now c.if-index-lt-LENGTH.false c.is_valid.ensures (c.if-not-is_valid.false) c.slots_ok.ensures (c.if-not-slots_ok.true)

pub returns : goal.returns
returns c =
    sound_rest c.args.index.now c.if-index-lt-LENGTH.false c.is_valid.ensures (c.if-not-is_valid.false) c.slots_ok.ensures (c.if-not-slots_ok.false) c.slots_ok-2.ensures
