use Rattle.std.proofs.Common.{}
use Rattle.std.specs.Fmt.{HasWritten, IsPlainFormatter}
use Rattle.print.specs.Texts.{rectangles_text}
use Rattle.print.proofs.printed.RectanglesDisplay.fmt.Given as goal

abbrev pub invariant-loop-i : goal.invariant-loop-i
invariant-loop-i g l = IsPlainFormatter l.initial.f → HasWritten g.W.Write.write_str_gives l.initial.f (rectangles_text l.sides l.i) l.f
