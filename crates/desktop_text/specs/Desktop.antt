-- The desktop as text. Assumes nothing.
use Rattle.std.specs.Prelude.{ℕ, ◌+◌, ◌*◌, List, [], ◌∷◌, ◌++◌}
use Rattle.wire.specs.Tests.{pick}
use Rattle.wire.specs.Numbers.{num_at}
use Rattle.body.specs.Bodies.{desktop_fields, body_of}
use Rattle.layout.specs.Layouts.{desktop_size}
use Rattle.print.specs.Templates.{ascii, fill_text}
use Rattle.protocol.specs.declared.WindowId.{WindowId}
use Rattle.view.specs.declared.DesktopRecord.{DesktopRecord}
use Rattle.view.specs.Views.{desktop_of}
use Rattle.field_text.specs.Fields.{stack_text}

unfoldable pub modes_text : WindowId → ℕ → ℕ → List ℕ
modes_text active hooked syncing = fill_text (ascii " active=# hooked=# syncing=#") (active.id ∷ hooked ∷ syncing ∷ []) []

unfoldable pub fields_text : DesktopRecord → List ℕ
fields_text d = modes_text d.active (pick d.hooked 1 0) (pick d.syncing 1 0) ++ stack_text d.stack

-- the windows that are shown, and their pixels in two halves, the lower one first
unfoldable pub shown_text : ℕ → ℕ → ℕ → List ℕ
shown_text shown low high = fill_text (ascii " shown=# pixels=#") (shown ∷ (low + 4294967296 * high) ∷ []) []

-- after the record
unfoldable pub figure_text : List ℕ → List ℕ
figure_text s = shown_text (num_at 4 s desktop_size) (num_at 4 s (desktop_size + 4)) (num_at 4 s (desktop_size + 8))

unfoldable pub desktop_text : List ℕ → List ℕ
desktop_text s = fields_text (desktop_of (body_of desktop_fields s)) ++ figure_text s
