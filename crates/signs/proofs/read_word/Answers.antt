-- The number that stands there, extended.
use Rattle.std.proofs.Common.{ℕ, ◌∙◌, ap}
use Rattle.signs.specs.TwosComplement.{signed, unsigned}
use Rattle.signs.proofs.read_word.Goals as goal

pub returns : goal.returns
returns c = c.extended.ensures ∙ ap (λ (n : ℕ). unsigned 4 (signed 2 n)) c.read_u16.ensures
