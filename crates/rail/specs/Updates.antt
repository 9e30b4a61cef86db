-- A whole update at the C boundary: its report as one number. Assumes nothing.
use Rattle.std.specs.Prelude.{ℕ, ◌≡◌, List}
use Rattle.journal.specs.View.{Memory, memory, Past, view_of}
use Rattle.update.specs.Outcome.{report_on, next_on, granted_on, with_orders}
use Rattle.update.specs.Packed.{packed_report}

-- the packed report, what the state memory then describes, its bytes, and that those past the needed lengths are as they were
pub record UpdateExport (limit : ℕ) (s : List ℕ) (m : Memory) (r : ℕ) (m' : Memory) : Type 0 where
  pub says : r ≡ packed_report (report_on limit s (view_of m))
  pub holds : view_of m' ≡ next_on limit s (view_of m)
  pub bytes : m' ≡ memory m.index m.bodies m.store (with_orders m.journal (granted_on limit s (view_of m)))
  pub past : Past m m'
