-- The template is filled, with signed numbers read back from their bits.
use Rattle.print.specs.Templates.{ascii, ascii_from}
use Rattle.window_text.specs.Windows.{places_text}
use Rattle.field_text.proofs.Numbers.{four_back, filled_with}
use Rattle.window_text.proofs.places.Goals as goal

pub returns : goal.returns
unfolding places_text ascii ascii_from
returns c =
    filled_with _ _ (four_back c.args.offset.x c.args.offset.y c.args.delta.x c.args.delta.y c.struct_told-1.given.0.1 c.struct_told-1.given.1.0.1 c.struct_told-2-1.given.0.1 c.struct_told-2-1.given.1.0.1) c.fill.ensures
