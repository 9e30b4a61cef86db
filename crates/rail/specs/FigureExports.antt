-- The figure of the table at the mark at the C boundary: its packed reply, and what it leaves in the output memory. Assumes nothing.
use Rattle.std.specs.Prelude.{ℕ, ◌≡◌, List, length}
use Rattle.journal.specs.View.{Memory, view_of}
use Rattle.session.specs.Outcome.{reply_of}
use Rattle.session.specs.Packed.{packed_of}
use Rattle.visible.specs.Outcome.{figure_answer, figure_out}

pub record FigureExport (m : Memory) (out : List ℕ) (r : ℕ) (out' : List ℕ) : Type 0 where
  pub says : r ≡ packed_of (reply_of (figure_answer (view_of m) (length out)))
  pub gives : out' ≡ figure_out (view_of m) out
