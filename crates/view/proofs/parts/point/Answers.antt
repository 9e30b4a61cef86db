-- The two values are those of the field's 8 bytes.
use Rattle.std.proofs.Common.{◌∙◌, w32}
use mir.ValLaws.{to_z-of_z}
use Rattle.view.proofs.ViewsRead.{point_is}
use Rattle.view.proofs.parts.point.Goals as goal

pub returns : goal.returns
returns c =
    let a = c.args in
    point_is a.s.now a.at
    (to_z-of_z w32 c.read_i32-x.result (record { sfits = c.read_i32-x.type_inv }) ∙ c.read_i32-x.ensures)
    (to_z-of_z w32 c.read_i32-y.result (record { sfits = c.read_i32-y.type_inv }) ∙ c.read_i32-y.ensures)
