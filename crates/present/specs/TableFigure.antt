-- How much is visible of the windows of a table (requests No. 8 and No. 9), whatever memory describes it. Assumes nothing.
use Rattle.std.specs.Prelude.{ℕ, List}
use Rattle.std.proofs.Math.Option.{Option, none, some}
use Rattle.wire.specs.Tests.{pick}
use Rattle.places.specs.declared.Family.TheVariants.{Windows}
use Rattle.body.specs.Bodies.{Body}
use Rattle.figure.specs.declared.Figure.{Figure}
use Rattle.figure.specs.Figure.{figure_by}
use Rattle.table.specs.Table.{Table}

-- a record by its fields: its marks do not count
abbrev pub unmarked : List (List ℕ) → Body
unmarked fields = record { first = 0; second = 0; fields = fields }

-- the window that a table lists under an id
abbrev pub window_in : Table → ℕ → Option Body
window_in t id = pick (t.index.listed Windows id 0) (some (unmarked (t.fields Windows id 0))) none

-- how many of them are shown, and the pixels of their visibility rectangles added up
unfoldable pub figure_in : Table → Figure
figure_in t = figure_by (window_in t)
