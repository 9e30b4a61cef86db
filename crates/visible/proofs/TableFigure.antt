-- The figure of memory is that of the table that it describes: both count the same windows by their ids. Assumes nothing.
use mathlib.Core.Path.{◌≡◌, refl, ◌∙◌}
use mathlib.Core.Bool.{true, false}
use mathlib.Core.List.{List, []}
use mathlib.Core.Option.{none, some}
use Prim.Native.Nat.{ℕ}
use Rattle.std.specs.Prelude.{Option, Some, None}
use Rattle.wire.specs.Tests.{pick}
use Rattle.places.specs.declared.Family.TheVariants.{Windows}
use Rattle.places.specs.Counts.{on_found}
use Rattle.slots.specs.Slots as slots
use Rattle.index.specs.Memory.{index_of}
use Rattle.body.specs.Bodies.{Body, window_fields, slot_of, fields_of, body_of}
use Rattle.table.specs.Memory.{decode}
use Rattle.area.specs.Area.{sum_below}
use Rattle.area.proofs.Counting.{sum_cong}
use Rattle.figure.specs.Figure.{pixels_of, window_at, id_end, of_window, figure_by, window_by}
use Rattle.figure.proofs.FigureIds.{places_dont_count}
use Rattle.present.specs.TableFigure.{unmarked, window_in, figure_in}
use Rattle.present.specs.PresentFigure.{shown_one}
use Rattle.present.proofs.PresentFigure.{shown_unmarked, pixels_unmarked}
use Rattle.visible.specs.TableFigure.{MemoryHasFigure}

-- a number of each window that its marks do not change, added up over the ids
same_sum : (x b : List ℕ) (p : List (List ℕ)) (f : Body → ℕ) → ((w : Body) → f w ≡ f (unmarked w.fields))
    → sum_below id_end (λ id. of_window f (window_by x b id)) ≡ sum_below id_end (λ id. of_window f (window_in (decode x b p) id))
unfolding decode index_of body_of
same_sum x b p f e =
    sum_cong id_end (λ id. of_window f (window_by x b id)) (λ id. of_window f (window_in (decode x b p) id)) (λ id. go (slots.slot_of x Windows id 0))
  where
    go : (w : Option ℕ) → of_window f (on_found w none (λ i. some (window_at b i)))
        ≡ of_window f (pick (on_found w false (λ i. true)) (some (unmarked (on_found w [] (λ i. fields_of window_fields 2 (slot_of b i))))) none)
    go None = refl
    go (Some i) = e (window_at b i)

pub memory_has_figure : MemoryHasFigure
unfolding MemoryHasFigure figure_in figure_by
memory_has_figure x b p bytes sound =
    let windows = same_sum x b p shown_one shown_unmarked in
    let pixels = same_sum x b p pixels_of pixels_unmarked in
    places_dont_count x b bytes sound ∙ (λ k. record { windows = windows k; pixels = pixels k })
