-- The byte behind that of the number of places.
use Rattle.session.proofs.Targets.{no_pointer, pointer_read}
use Rattle.lookups.proofs.pointer.Goals as goal

pub returns-then-h-ge-HOLDERS : goal.returns-then-h-ge-HOLDERS
returns-then-h-ge-HOLDERS c = no_pointer c.args.d.now c.args.h c.if-h-ge-HOLDERS.true

pub returns : goal.returns
returns c = pointer_read c.args.d.now c.args.h c.if-h-ge-HOLDERS.false
