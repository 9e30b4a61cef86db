-- The figure at the C boundary. Assumes nothing.
use mathlib.Core.Path.{◌≡◌, ap, ◌∙◌}
use mathlib.Core.List.{List}
use Prim.Native.Nat.{ℕ}
use Rattle.journal.specs.View.{Memory}
use Rattle.session.specs.declared.Reply.{Reply}
use Rattle.session.specs.Packed.{packed_of}
use Rattle.visible.specs.Outcome.{FigureOutcome}
use Rattle.rail.specs.FigureExports.{FigureExport}

pub figure_exported : {m : Memory} {out out' : List ℕ} {r : Reply} {n : ℕ} → FigureOutcome m out r out' → n ≡ packed_of r → FigureExport m out n out'
figure_exported o p = record { says = p ∙ ap packed_of o.says; gives = o.gives }
