-- The picture is chosen by whether it is there.
use Rattle.std.proofs.Common.{ℕ, List, ap}
use Rattle.print.proofs.Laid.{as_text, then}
use Rattle.print.specs.Templates.{ascii, ascii_from}
use Rattle.view.specs.Views.{picture_view}
use Rattle.field_text.specs.Pictures.{values_text, icon_text}
use Rattle.field_text.proofs.Choices.{first, second}
use Rattle.field_text.proofs.Parts.{the_rest}
use Rattle.field_text.proofs.pictures.icon.Goals as goal

pub returns-then-there : goal.returns-then-there
unfolding icon_text ascii ascii_from
returns-then-there c =
    then c.text-n.ensures (first c.args.there _ _ c.if-there.true (as_text (ap (λ (p : List ℕ). values_text (picture_view p)) (the_rest c.args.bytes.now c.args.from)) c.values.ensures))

pub returns : goal.returns
unfolding icon_text ascii ascii_from
returns c = then c.text-n.ensures (second c.args.there _ _ c.if-there.false c.text.ensures)
