-- The value of the number that stands there.
use Rattle.std.proofs.Common.{◌∙◌, ap, w32}
use mir.ValLaws.{to_z-of_z}
use Rattle.signs.specs.TwosComplement.{signed}
use Rattle.signs.proofs.read_i32.Goals as goal

pub returns : goal.returns
returns c =
    to_z-of_z w32 c.signed32.result (record { sfits = c.signed32.type_inv }) ∙ c.signed32.ensures ∙ ap (signed 4) c.read_u32.ensures
