-- The pointers of a slot lie side by side, behind the number of places.
use Rattle.slots.proofs.Ways.{pointers_none}
use Rattle.slots.proofs.sound.no_pointers.Goals as goal

pub returns : goal.returns
returns c = pointers_none c.args.index.now c.args.i c.requires.1
