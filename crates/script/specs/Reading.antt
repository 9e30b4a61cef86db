-- What reading a part of an item does to the bytes that are left, where those are known. Assumes nothing.
use Rattle.std.specs.Prelude.{◌≡◌, ℕ, ◌<◌, ◌≤◌, List, [], length, Option}
use Rattle.std.specs.Io.KnownBytes.{Consumes, IsAtEnd}
use Rattle.script.specs.declared.Stop.{Stop}
use Rattle.script.specs.declared.Stop.TheVariants.{BadItem, MemoryChanged, Failed}

-- a part was read whole: so many bytes
pub record IsRead (size : ℕ) (old new : Option (List ℕ)) (bytes : List ℕ) : Type 0 where
  pub whole : length bytes ≡ size
  pub taken : Consumes old new bytes

-- nothing was left to be read
pub record IsOver (old new : Option (List ℕ)) : Type 0 where
  pub nothing : Consumes old new []
  pub ended : IsAtEnd new

-- the input ended in a part of so many bytes, of which at least so many came
pub record IsCut (least size : ℕ) (old new : Option (List ℕ)) : Type 0 where
  pub begun : List ℕ
  pub at_least : least ≤ length begun
  pub fewer : length begun < size
  pub taken : Consumes old new begun
  pub ended : IsAtEnd new

-- a read failed after some bytes
pub record IsFailed (old new : Option (List ℕ)) : Type 0 where
  pub begun : List ℕ
  pub taken : Consumes old new begun

-- why a part of so many bytes was not read, of which at least so many came where it is cut
abbrev pub Unread : ℕ → ℕ → Option (List ℕ) → Option (List ℕ) → Stop → Type 0
Unread least size old new BadItem = IsCut least size old new
Unread least size old new MemoryChanged = ⊥
Unread least size old new (Failed error) = IsFailed old new
