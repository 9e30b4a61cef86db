-- The rectangles so far, and one more behind what parts it from them.
use Rattle.std.proofs.Common.{rules}
use Rattle.std.proofs.Output.{has_written_append, has_written_of_eq}
use Rattle.print.proofs.Steps.{rectangles_more}
use Rattle.print.proofs.printed.RectanglesDisplay.fmt.Goals as goal

pub loop-i-preserved : goal.loop-i-preserved
loop-i-preserved g c = λ plain.
    has_written_of_eq _ _ _ _ _ (rectangles_more _ _) (has_written_append _ _ _ _ _ _ (c.loop-i.invariant plain) (search rules))
