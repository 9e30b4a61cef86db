-- The report of an update at the C boundary. Assumes nothing.
use mathlib.Core.Path.{◌≡◌, ap, ◌∙◌}
use mathlib.Core.List.{List}
use Prim.Native.Nat.{ℕ}
use Rattle.journal.specs.View.{Memory}
use Rattle.update.specs.declared.Report.{Report}
use Rattle.update.specs.Outcome.{UpdateOutcome}
use Rattle.update.specs.Packed.{packed_report}
use Rattle.rail.specs.Updates.{UpdateExport}

pub update_exported : {limit : ℕ} {s : List ℕ} {m m' : Memory} {r : Report} {n : ℕ} → UpdateOutcome limit s m r m' → n ≡ packed_report r → UpdateExport limit s m n m'
update_exported o p = record { says = p ∙ ap packed_report o.says; holds = o.holds; bytes = o.bytes; past = o.past }
