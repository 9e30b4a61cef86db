-- Laws of a part of a list as it is lent. Assumes nothing.
use mathlib.Core.Path.{◌≡◌, refl, sym, ap, ◌∙◌}
use mathlib.Core.Bool.{Bool, true, false}
use mathlib.Core.List.{List, ◌++◌}
use Prim.Native.Nat.{ℕ, ◌-◌, min}
use native.Mathlib.Omega.{arith}
use lib.Dec.{leb}
use lib.ListN.{length, take, drop, length-drop}
use lib.Seq.{take_all}
use Rattle.wire.specs.Parts.{slice}
use Rattle.print.specs.Texts.{hex_text}
use Rattle.print.specs.Templates.{ascii}
use borrow.Author.Tests.{leb-true, leb-false}

-- the rest of a list
pub the_rest : (s : List ℕ) (from : ℕ) → take (length s - from) (drop from s) ≡ drop from s
the_rest s from = take_all (length s - from) (drop from s) (omega (arith, length-drop from s))

-- the first k of a list, as many as there are, lent from index 0 on
pub the_first : (k n : ℕ) (s : List ℕ) → n ≡ min k (length s) → take (n - 0) s ≡ take k s
the_first k n s e = go (leb k (length s)) refl
  where
    go : (b : Bool) → leb k (length s) ≡ b → take (n - 0) s ≡ take k s
    go true b =
        let l = leb-true k (length s) b in
        let f : n - 0 ≡ k = omega arith in
        ap (λ (i : ℕ). take i s) f
    go false b =
        let l = leb-false k (length s) b in
        take_all (n - 0) s (omega arith) ∙ sym (take_all k s (omega arith))

-- all of a list in hex
pub whole_hex : (s : List ℕ) → ascii " " ++ hex_text (slice s 0 (length s)) ≡ ascii " " ++ hex_text s
unfolding slice
whole_hex s = ap (λ (t : List ℕ). ascii " " ++ hex_text t) (take_all (length s) s (omega arith))
