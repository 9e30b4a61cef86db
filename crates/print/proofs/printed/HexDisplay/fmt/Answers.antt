use Rattle.std.proofs.Common.{rules}
use Rattle.std.proofs.Output.{has_written_append, has_written_of_eq}
use Rattle.print.proofs.Steps.{hex_more}
use Rattle.print.proofs.printed.HexDisplay.fmt.Goals as goal

pub loop-b-preserved : goal.loop-b-preserved
loop-b-preserved g c = λ plain.
    has_written_of_eq _ _ _ _ _ (hex_more _ _ (search rules) (search rules))
    (has_written_append _ _ _ _ _ _ (c.loop-b.invariant plain) (search rules))
