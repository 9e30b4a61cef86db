-- Records as they stand in memory: each field in its set, with exactly the bytes that its count asks for. Assumes nothing.
use Rattle.std.specs.Prelude.{ℕ, ◌≤◌, ◌≡◌, true, List, [], ◌∷◌, length}
use Rattle.rows.specs.declared.Row.{Row}
use Rattle.rows.specs.Rows.{len_of, ok_of}
use Rattle.body.specs.Bodies.{Body}

-- a field is in its set, and has the bytes that its row and its count ask for, no more
pub record ValidField (r : Row) (f : List ℕ) : Type 0 where
  pub long : length f ≡ len_of r f 0
  pub set : ok_of r f 0 ≡ true

-- a field for each row
abbrev pub ValidFields : List Row → List (List ℕ) → Type 0
ValidFields [] [] = Unit {0}
ValidFields [] (f ∷ fs) = ⊥
ValidFields (r ∷ rs) [] = ⊥
ValidFields (r ∷ rs) (f ∷ fs) = ValidField r f × ValidFields rs fs

-- and the marks are at most m and n
pub record ValidBody (rows : List Row) (m n : ℕ) (b : Body) : Type 0 where
  pub first : b.first ≤ m
  pub second : b.second ≤ n
  pub fields : ValidFields rows b.fields
