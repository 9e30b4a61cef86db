-- Two writes, the second into what the first made.
use Rattle.std.proofs.Common.{ℕ, ◌∙◌, List, ap}
use Rattle.wire.specs.Parts.{splice}
use Rattle.wire.specs.Numbers.{bytes_of}
use Rattle.chunk.specs.Memory.{got_place, noted}
use Rattle.chunk_join.proofs.note.Goals as goal

pub returns : goal.returns
unfolding noted
returns c = c.write_u32-2.ensures ∙ ap (λ (x : List ℕ). splice x got_place (bytes_of 4 c.args.got)) c.write_u32.ensures
