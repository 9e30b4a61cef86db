-- One digit after the other.
use Rattle.std.proofs.Common.{ℕ, ◌∷◌, [], ap}
use Rattle.print.proofs.Laid.{as_text, then}
use Rattle.print.proofs.hex_byte.Goals as goal

pub returns : goal.returns
returns c =
    then (as_text (ap (λ (d : ℕ). d ∷ []) c.digit.ensures) c.byte-n.ensures) (as_text (ap (λ (d : ℕ). d ∷ []) c.digit-2.ensures) c.byte.ensures)
