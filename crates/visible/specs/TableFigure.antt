-- Request No. 8: memory has the figure of the table that it describes. Assumes nothing.
use Rattle.std.specs.Prelude.{ℕ, ◌≡◌, true, List}
use Rattle.wire.specs.Numbers.{Bytes}
use Rattle.slots.specs.Sound.{sound_index}
use Rattle.figure.specs.Figure.{figure_of}
use Rattle.table.specs.Memory.{decode}
use Rattle.present.specs.TableFigure.{figure_in}

-- what is counted slot by slot in the memory of a table is its figure
unfoldable pub MemoryHasFigure : Type 0
MemoryHasFigure = (index bodies : List ℕ) (store : List (List ℕ)) → Bytes index → sound_index index ≡ true → figure_of index bodies ≡ figure_in (decode index bodies store)
