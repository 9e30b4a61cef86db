-- The callees' equations, joined: a copy of a sound index is sound, and the memory of what is looked up keeps its length.
use Rattle.std.proofs.Common.{arith}
use Rattle.slots.proofs.Ways.{sound_long}
use Rattle.journal.proofs.Validations.{copy_sound, from_copies}
use Rattle.journal_replay.proofs.from_mark.Goals as goal

pub copy_part-requires : goal.copy_part-requires
copy_part-requires c = (omega (arith, c.requires.d_len.0), sound_long c.args.index.now c.requires.index_value.0)

pub begin-requires : goal.begin-requires
begin-requires c = (c.requires.d_len.1, sound_long c.args.index.now c.requires.index_value.0, c.requires.index_value.1)

pub replay-requires : goal.replay-requires
replay-requires c = (
  copy_sound c.args.index.now c.args.d.now c.requires.index_value.0 c.requires.d_len.0 c.copy_part.ensures,
  omega (arith, c.begin.auto, c.requires.d_len.1),
  c.requires.index_value.2,
)

pub returns : goal.returns
returns c =
    from_copies c.args.want c.args.index.now c.args.bodies.now c.args.journal.now c.args.count c.args.d.now c.args.m.now
    c.copy_part.ensures c.begin.ensures c.replay.ensures
