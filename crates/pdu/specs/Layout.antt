-- The layouts: which types there are, and the widths of the numbers that follow each type's header (orderType 2, orderLength 2).
-- Strings follow the numbers. Those of type 0003 are in Settings.antt, by its setting. Assumes nothing.
use Rattle.std.specs.Prelude.{ℕ, Bool, List, [], ◌∷◌, map, eqb}
use Rattle.wire.specs.Tests.{pick, any}

-- a number is one of a list
abbrev pub one_of : ℕ → List ℕ → Bool
one_of v xs = any (map (λ (x : ℕ). eqb v x) xs)

abbrev pub types : List ℕ
types = 0x01 ∷ 0x02 ∷ 0x04 ∷ 0x05 ∷ 0x06 ∷ 0x08 ∷ 0x09 ∷ 0x0A ∷ 0x0B ∷ 0x0C ∷ 0x0E ∷ 0x0F ∷ 0x03 ∷ 0x13 ∷ 0x80 ∷ []

unfoldable pub known : ℕ → Bool
known k = one_of k types

unfoldable pub widths : ℕ → List ℕ
widths k =
    pick (eqb k 0x01) (2 ∷ 2 ∷ 2 ∷ 2 ∷ [])
    (pick (eqb k 0x02) (4 ∷ 1 ∷ [])
    (pick (eqb k 0x04) (4 ∷ 2 ∷ [])
    (pick (eqb k 0x05) (4 ∷ [])
    (pick (eqb k 0x06) (4 ∷ 4 ∷ 4 ∷ [])
    (pick (eqb k 0x08) (4 ∷ 2 ∷ 2 ∷ 2 ∷ 2 ∷ [])
    (pick (eqb k 0x09) (4 ∷ 2 ∷ 2 ∷ 2 ∷ 2 ∷ [])
    (pick (eqb k 0x0A) (4 ∷ 2 ∷ 2 ∷ 2 ∷ 2 ∷ 2 ∷ 2 ∷ 2 ∷ 2 ∷ [])
    (pick (eqb k 0x0B) (4 ∷ [])
    (pick (eqb k 0x0C) (4 ∷ 2 ∷ 2 ∷ [])
    (pick (eqb k 0x0E) (4 ∷ [])
    (pick (eqb k 0x0F) (4 ∷ [])
    (pick (eqb k 0x80) (2 ∷ 2 ∷ 4 ∷ 2 ∷ 2 ∷ [])
    (pick (eqb k 0x13) (4 ∷ 4 ∷ [])
    [])))))))))))))
