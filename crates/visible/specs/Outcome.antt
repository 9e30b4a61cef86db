-- The figure as a state call: that of the table at the mark, which after a checkpoint is the present one. Assumes nothing.
use Rattle.std.specs.Prelude.{ℕ, ◌≤◌, ◌≡◌, List, [], ltb, length}
use Rattle.wire.specs.Tests.{pick}
use Rattle.wire.specs.Parts.{splice}
use Rattle.figure.specs.Figure.{figure_length, figure_bytes}
use Rattle.journal.specs.State.{State, present}
use Rattle.journal.specs.View.{Memory, View, short, unformed, formed, view_of}
use Rattle.present.specs.TableFigure.{figure_in}
use Rattle.session.specs.declared.Reply.{Reply}
use Rattle.session.specs.Calls.{checkpoint, nothing, Answer, refuse, grant}
use Rattle.session.specs.Outcome.{plain, replied, reply_of, CallOutcome}

-- 1 where the memory is too short or not well formed, then 14 where the output is too small
unfoldable pub figure_answer : View → ℕ → Answer
figure_answer short room = refuse 1
figure_answer unformed room = refuse 1
figure_answer (formed s) room = pick (ltb room figure_length) (refuse 14) (grant s.log nothing)

-- the figure of the table at the mark stands at the start of the output memory; a refusal leaves it
unfoldable pub figure_out : View → List ℕ → List ℕ
figure_out short out = out
figure_out unformed out = out
figure_out (formed s) out = pick (ltb (length out) figure_length) out (splice out 0 (figure_bytes (figure_in s.marked)))

-- the state memory is lent for reading alone
pub record FigureOutcome (m : Memory) (out : List ℕ) (r : Reply) (out' : List ℕ) : Type 0 where
  pub says : r ≡ reply_of (figure_answer (view_of m) (length out))
  pub gives : out' ≡ figure_out (view_of m) out

-- ---- next to the checkpoint

-- after a checkpoint the call is granted, and its figure is that of the table that the orders had made
pub record MarkedFigure (s : State) (out : List ℕ) (r : Reply) (out' : List ℕ) : Type 0 where
  pub says : r ≡ reply_of (grant [] nothing)
  pub gives : out' ≡ splice out 0 (figure_bytes (figure_in (present s)))

unfoldable pub AtTheMark : Type 0
AtTheMark = (s : State) (m m' : Memory) (out out' : List ℕ) (c r : Reply) → view_of m ≡ formed s → CallOutcome (plain checkpoint) m (replied c) m'
    → FigureOutcome m' out r out' → figure_length ≤ length out → MarkedFigure s out r out'
