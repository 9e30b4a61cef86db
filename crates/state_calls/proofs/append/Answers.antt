-- The order copied behind the others, then the count.
use Rattle.std.proofs.Common.{ℕ, ◌+◌, ◌∙◌, List, ap}
use Rattle.wire.specs.Numbers.{bytes_of}
use Rattle.wire.specs.Parts.{splice}
use Rattle.state_calls.proofs.append.Goals as goal

pub returns : goal.returns
returns c = c.write_u16.ensures ∙ ap (λ (j : List ℕ). splice j 0 (bytes_of 2 (c.args.count + 1))) c.copy_at.ensures
