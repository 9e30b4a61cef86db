-- The numbers of the desktop, as the definitions have them. Assumes nothing.
use mathlib.Core.Path.{◌≡◌, ap, ◌∙◌}
use mathlib.Core.List.{List}
use Prim.Native.Nat.{ℕ, ◌+◌}
use Rattle.wire.specs.Tests.{pick}
use Rattle.wire.specs.Numbers.{num_at}
use Rattle.layout.specs.Layouts.{desktop_size}
use Rattle.view.specs.declared.DesktopRecord.{DesktopRecord}
use Rattle.desktop_text.specs.Desktop.{modes_text, shown_text, figure_text}

pub modes_told : (d : DesktopRecord) {h k : ℕ} → h ≡ pick d.hooked 1 0 → k ≡ pick d.syncing 1 0
    → modes_text d.active h k ≡ modes_text d.active (pick d.hooked 1 0) (pick d.syncing 1 0)
modes_told d {h} {k} e f = ap (λ (n : ℕ). modes_text d.active n k) e ∙ ap (modes_text d.active (pick d.hooked 1 0)) f

pub figure_told : (s : List ℕ) {a b c : ℕ} → a ≡ num_at 4 s desktop_size → b ≡ num_at 4 s (desktop_size + 4) → c ≡ num_at 4 s (desktop_size + 8) → shown_text a b c ≡ figure_text s
unfolding figure_text
figure_told s e f g = rw (e, f, g)
