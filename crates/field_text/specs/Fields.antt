-- Fields that are lists, as text: strings, rectangles, ids. Assumes nothing.
use Rattle.std.specs.Prelude.{ℕ, ◌*◌, ◌/◌, min, List, ◌++◌, length, take, get_or}
use Rattle.wire.specs.Parts.{slice}
use Rattle.print.specs.Texts.{hex_text, decimal_text, laid_list_text, laid_rectangles_text}
use Rattle.print.specs.Templates.{ascii}
use Rattle.protocol.specs.declared.WindowId.{WindowId}
use Rattle.view.specs.declared.Text.{Text}
use Rattle.view.specs.declared.Rectangles.{Rectangles}
use Rattle.view.specs.declared.Stack.{Stack}
use Rattle.view.specs.Views.{window_id}

-- its bytes in hex
unfoldable pub string_text : List ℕ → Text → List ℕ
string_text name t = name ++ hex_text (slice t.bytes 0 t.count)

-- four numbers for each rectangle
unfoldable pub sides_text : List ℕ → List ℕ
sides_text ns = laid_rectangles_text ns (length ns / 4)

unfoldable pub rectangles_field : List ℕ → Rectangles → List ℕ
rectangles_field name r = name ++ sides_text (take (4 * r.count) r.sides)

-- the first k ids, parted by commas
unfoldable pub ids_text : List WindowId → ℕ → List ℕ
ids_text ids k = laid_list_text 44 (λ i. decimal_text (get_or ids i (window_id 0)).id) k

unfoldable pub stack_text : Stack → List ℕ
stack_text s = ascii " stack=" ++ ids_text s.ids (min s.count 64)
