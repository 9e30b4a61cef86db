-- The laws that the functions' proofs cite, one for each way through them. Assumes nothing.
use mathlib.Core.Path.{◌≡◌, sym, ◌∙◌}
use mathlib.Core.Bool.{Bool, true, false}
use mathlib.Core.List.{List}
use Prim.Native.Nat.{ℕ, ◌+◌, ◌-◌}
use native.Mathlib.Omega.{arith}
use lib.Dec.{leb}
use Rattle.wire.specs.Tests.{both}
use Rattle.wire.specs.Numbers.{num_at}
use Rattle.order.specs.Icons.{tabled, parts_of, bits_ok, side_ok}
use Rattle.cache.specs.Cells.{numbers_ok, cell_ok}

pub bits_bad : (bits width height n : ℕ) → bits_ok bits ≡ false → false ≡ numbers_ok bits width height n
bits_bad bits width height n h = rw h

pub bits_fine : (bits width height n : ℕ) → bits_ok bits ≡ true → both (both (side_ok width) (side_ok height)) (leb n 4224) ≡ numbers_ok bits width height n
bits_fine bits width height n h = rw h

module _ (cell : List ℕ) {bits a b : ℕ} {t : Bool} (e : bits ≡ num_at 1 cell 3) (f : t ≡ tabled bits) (x : a ≡ num_at 2 cell 8) (y : b ≡ num_at 2 cell 10) where
  pub runs_tabled : {c : ℕ} → t ≡ true → c ≡ num_at 2 cell 12 → a + b + c ≡ (parts_of cell 0).end - (parts_of cell 0).mask
  unfolding parts_of
  runs_tabled h z = rw (← e, sym f ∙ h, ← x, ← y, ← z) (omega arith)

  pub runs_plain : t ≡ false → a + b ≡ (parts_of cell 0).end - (parts_of cell 0).mask
  unfolding parts_of
  runs_plain h = rw (← e, sym f ∙ h, ← x, ← y) (omega arith)

pub ok_join : (cell : List ℕ) {bits width height n : ℕ} {r : Bool} → r ≡ numbers_ok bits width height n → bits ≡ num_at 1 cell 3
    → width ≡ num_at 2 cell 4 → height ≡ num_at 2 cell 6 → n ≡ (parts_of cell 0).end - (parts_of cell 0).mask → r ≡ cell_ok cell
unfolding cell_ok
ok_join cell e a b c d = rw (← a, ← b, ← c, ← d) e
