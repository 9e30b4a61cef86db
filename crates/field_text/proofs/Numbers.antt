-- Numbers that the code reads and lays, as the definitions have them. Assumes nothing.
use mathlib.Core.Path.{◌≡◌, ap, ◌∙◌}
use mathlib.Core.List.{List, [], ◌∷◌, ◌++◌}
use Prim.Native.Nat.{ℕ, ◌<◌}
use lib.IntN.{ℤ}
use lib.Signed.{mag}
use mir.Syntax.{w32}
use mir.Val.{of_z, to_z}
use Rattle.print.specs.Texts.{decimal_text}
use Rattle.print.specs.Templates.{fill_text}
use Rattle.print.specs.Laid.{Laid}
use Rattle.print.proofs.Laid.{as_text}
use Rattle.print.proofs.Signs.{read_back}

-- signed numbers, read back from their bits
pub two_back : (x y : ℤ) → mag x < 2147483648 → mag y < 2147483648 → to_z w32 (of_z w32 x) ∷ to_z w32 (of_z w32 y) ∷ [] ≡ x ∷ y ∷ []
two_back x y h k = ap (λ (z : ℤ). z ∷ to_z w32 (of_z w32 y) ∷ []) (read_back x h) ∙ ap (λ (z : ℤ). x ∷ z ∷ []) (read_back y k)

pub four_back : (x y z w : ℤ) → mag x < 2147483648 → mag y < 2147483648 → mag z < 2147483648 → mag w < 2147483648
    → to_z w32 (of_z w32 x) ∷ to_z w32 (of_z w32 y) ∷ to_z w32 (of_z w32 z) ∷ to_z w32 (of_z w32 w) ∷ [] ≡ x ∷ y ∷ z ∷ w ∷ []
four_back x y z w h k i j =
    ap (λ (zs : List ℤ). to_z w32 (of_z w32 x) ∷ to_z w32 (of_z w32 y) ∷ zs) (two_back z w i j) ∙ ap (λ (v : ℤ). v ∷ to_z w32 (of_z w32 y) ∷ z ∷ w ∷ []) (read_back x h)
    ∙ ap (λ (v : ℤ). x ∷ v ∷ z ∷ w ∷ []) (read_back y k)

pub filled_with : {d x : List ℕ} {at n : ℕ} (t ns : List ℕ) {zs ys : List ℤ} → zs ≡ ys → Laid d at (fill_text t ns zs) x n → Laid d at (fill_text t ns ys) x n
filled_with t ns e l = as_text (ap (fill_text t ns) e) l

-- a name and a number
pub as_number : {d x : List ℕ} {at n : ℕ} (name : List ℕ) {v w : ℕ} → v ≡ w → Laid d at (name ++ decimal_text v) x n → Laid d at (name ++ decimal_text w) x n
as_number name e l = as_text (ap (λ (k : ℕ). name ++ decimal_text k) e) l
